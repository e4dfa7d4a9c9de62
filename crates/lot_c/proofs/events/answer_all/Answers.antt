use Rattle.lot_c.proofs.Lemmas.{Counts, Reply, State, ap, arith, done-more, fault-more, length, length-set, meant-more, plain_reply, refl, state_after, step, step-limits, subst, sym, written-step, ◌<◌, ◌∙◌, ◌≡◌}
use Rattle.lot_c.proofs.events.answer_all.Goals as goal

pub loop-i-init : goal.loop-i-init
loop-i-init c = record {
  told = refl;
  state = refl;
  fault = refl;
  counted = omega arith;
  done = refl;
  lengths = c.requires;
  same = refl;
  each = λ end done. done;
}

pub loop-i-preserved : goal.loop-i-preserved
loop-i-preserved c =
    let es = c.args.events.now in let i = c.loop-i.i in let rs = c.loop-i.replies in let s = c.loop-i.kernel.state in
    let e = c.in-Ok.event in
    let kept = c.loop-i.invariant in
    let below : i < length es = omega (arith, c.loop-i-test.true) in
    let room : i < length rs = omega (arith, c.loop-i-test.true, kept.lengths) in
    let sizes = c.args.kernel.now.state.limits in
    let told = rw c.limits-limits.ensures at c.read.ensures in
    let ok = sym told ∙ c.in-Ok.is in
    let reply : c.of.result ≡ plain_reply (step s e).reply = c.of.ensures ∙ ap plain_reply c.event.ensures.reply in
    record {
      told = rw reply (rw c.event.ensures.state (written-step sizes es i _ e below ok s rs room kept.same ∙ kept.told));
      state = rw c.event.ensures.state (sym (ap (state_after s) (meant-more sizes es i _ e below ok)) ∙ kept.state);
      fault = sym (fault-more sizes es i _ e below ok) ∙ kept.fault;
      counted = omega (arith, kept.counted, ap length (meant-more sizes es i _ e below ok));
      done = refl;
      lengths = kept.lengths ∙ sym (length-set rs i c.of.result);
      same = ap (λ (a : State). a.limits) c.event.ensures.state ∙ step-limits s e ∙ kept.same;
      each =
          λ end others. kept.each end (done-more sizes es i _ e below ok c.loop-i.kernel c.event.new.self end (record {
            reply = refl;
            state = c.event.ensures.state;
            sound = c.event.ensures.sound;
            stale = c.event.ensures.stale;
            counts = subst (λ (answer : Reply). Counts e answer c.loop-i.kernel c.event.new.self) c.event.ensures.reply
                c.event.ensures.counts;
          }) others);
    }
