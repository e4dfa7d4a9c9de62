use Rattle.lot_system.proofs.Lemmas.{AreAllFigures, List, Some, all-more, any-seed, any_ends_refused, ap, arith, between-first, between-more, ends_refused, first-seed, many-are, range_with_len, seeds_between, subst, with_seed, ℕ, [], ◌++◌, ◌+◌, ◌-◌, ◌||◌, ◌∙◌, ◌∷◌, ◌≡◌}
use Rattle.lot_system.proofs.seeds.play_others.Goals as goal

pub loop-number-init : goal.loop-number-init
loop-number-init c =
    let program = c.args.program.now in
    let first = c.args.seeds.now.first in
    let number : c.number-number.result ≡ first = c.number-number.ensures.is in
    record {
      above = omega (arith, number);
      within = omega (arith, number);
      are = subst (λ (seeds : List ℕ). AreAllFigures program seeds c.args.all.now)
          (between-first first (c.number-number.result + 1 - 1) (omega (arith, number))) c.requires.first;
      refused =
          ap (λ b. ends_refused (with_seed (Some first) program) || b) c.requires.unsaid ∙ first-seed program first
          ∙ ap (any_ends_refused program)
          (between-first first (c.number-number.result + 1 - 1) (omega (arith, number)));
    }

pub play_with-requires : goal.play_with-requires
play_with-requires c =
    record { many = many-are c.args.program.now (seeds_between c.args.seeds.now.first (c.loop-number.number - 1)) c.loop-number.all c.loop-number.invariant.are }

pub loop-number-preserved : goal.loop-number-preserved
loop-number-preserved c =
    let program = c.args.program.now in
    let first = c.args.seeds.now.first in
    let number = c.loop-number.number in
    let i = c.loop-number.invariant in
    let all = c.play_with.new.all in
    let more = all-more program
    (seeds_between first (number - 1)) c.in-Some.seed c.loop-number.all all i.are c.in_ok-play_with.ensures.played in
    let back : number ≡ number + 1 - 1 = omega arith in
    let seeds : seeds_between first (number - 1) ++ c.in-Some.seed ∷ [] ≡ seeds_between first (number + 1 - 1) =
    ap (λ n. seeds_between first (number - 1) ++ n ∷ []) c.in-Some.ensures.seed ∙ between-more first number i.above
    ∙ ap (seeds_between first) back in
    record {
      above = omega (arith, i.above);
      within = omega (arith, c.loop-number-test.true, c.number-number-end.ensures.is);
      are = subst (λ (seeds : List ℕ). AreAllFigures program seeds all) seeds more;
      refused =
          any-seed program (seeds_between first (number - 1)) c.in-Some.seed (ends_refused
          (with_seed (Some first) program)) c.loop-number.warnings.stopped c.play_with.new.warnings.stopped i.refused
          c.in_ok-play_with.ensures.stopped
          ∙ ap (any_ends_refused program) seeds;
    }

pub returns : goal.returns
returns c =
    let program = c.args.program.now in
    let first = c.args.seeds.now.first in
    let i = c.loop-number.invariant in
    let count : c.loop-number.number - 1 - first ≡ c.args.seeds.now.last - first =
    omega (arith, i.above, i.within, c.loop-number-test.false, c.number-number-end.ensures.is) in
    let seeds : seeds_between first (c.loop-number.number - 1) ≡ seeds_between first c.args.seeds.now.last =
    ap (λ n. first ∷ range_with_len (first + 1) n) count in
    record {
      figures = subst (λ (ns : List ℕ). AreAllFigures program ns c.loop-number.all) seeds i.are;
      stopped = i.refused ∙ ap (any_ends_refused program) seeds;
    }
