use Rattle.lot_print.proofs.Lemmas.{ActorRun, Err, List, ap, drop, flat_map, parts-more, parts-stop, rules, run_text, run_texts-first, runs_in, sym, take, ℕ, ◌+◌, ◌-◌, ◌∙◌, ◌∷◌, ◌≡◌}
use Rattle.lot_print.proofs.runs.write_run_texts.Goals as goal

pub returns-in_err-write_run : goal.returns-in_err-write_run
returns-in_err-write_run g c =
    let is : c.from_residual.result ≡ Err c.in_err-write_run.field-0.0 = search rules in
    let i = c.loop-pair.invariant in
    let told = c.in_err-write_run.ensures in
    let xs = c.loop-pair.rest.now in
    let n = c.loop-pair._pair in
    let run : ActorRun = record { actor = c.in-Some.actor; count = c.in-Some.count } in
    let others = drop run.count xs in
    rw is (
      told.0,
      told.1,
      parts-stop (g.W.Write.contents c.args.writer.now.inner) (g.W.Write.contents c.loop-pair.writer.inner)
          (g.W.Write.contents c.write_run.new.writer.inner) i.bytes.0 (run_text run)
          (flat_map run_text (take (32 - (n + 1)) (runs_in others))) (flat_map run_text (take (32 - n) (runs_in xs)))
          (flat_map run_text (take 32 (runs_in c.args.history.now))) i.bytes.1
          (run_texts-first n run (runs_in xs) (runs_in others) c.loop-pair-test.true c.in-Some.ensures.run) i.bytes.2
          told.2,
    )

pub loop-pair-preserved : goal.loop-pair-preserved
loop-pair-preserved g c =
    let i = c.loop-pair.invariant in
    let told = c.in_ok-write_run.ensures in
    let xs = c.loop-pair.rest.now in
    let n = c.loop-pair._pair in
    let run : ActorRun = record { actor = c.in-Some.actor; count = c.in-Some.count } in
    let others = c.after_turns-rest.result.now in
    let first : runs_in xs ≡ run ∷ runs_in others = c.in-Some.ensures.run
    ∙ ap (λ (more : List ℕ). run ∷ runs_in more) (sym c.after_turns-rest.ensures) in
    record {
      working = told.0;
      bytes = parts-more (g.W.Write.contents c.args.writer.now.inner) (g.W.Write.contents c.loop-pair.writer.inner)
          (g.W.Write.contents c.write_run.new.writer.inner) i.bytes.0 (run_text run)
          (flat_map run_text (take (32 - (n + 1)) (runs_in others))) (flat_map run_text (take (32 - n) (runs_in xs)))
          (flat_map run_text (take 32 (runs_in c.args.history.now))) i.bytes.1
          (run_texts-first n run (runs_in xs) (runs_in others) c.loop-pair-test.true first) i.bytes.2 told.1;
    }
