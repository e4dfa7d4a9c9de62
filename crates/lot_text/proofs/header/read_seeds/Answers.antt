use Rattle.lot_text.proofs.Lemmas.{All-nil, All-push, All-same, IsSeed, Match-memory, Match-refusal, Ok, ap, append-nil, arith, each-later, each-more, each-refused, length, length-append, more-read, number_between, [], ◌∙◌, ◌∷◌}
use Rattle.lot_text.proofs.header.read_seeds.Goals as goal

pub returns-clause-read : goal.returns-clause-read
returns-clause-read c = c.loop-token.invariant.read [] (rw c.in_default.ensures.next.0)
    ∙ ap Ok (append-nil c.loop-token.seeds.items)

pub loop-token-init : goal.loop-token-init
loop-token-init c =
    rw c.new-seeds.ensures.items
    (record { seeds = All-nil IsSeed; count = omega arith; read = λ others is. is; refused = λ refusal is. is })

pub returns-in_err-number_in-clause-read : goal.returns-in_err-number_in-clause-read
returns-in_err-number_in-clause-read c =
    let refused =
    each-refused (number_between 1 2147483646) c.loop-token.tokens c.next_token.new.self c.in-Some.token.now
    c.in_err-number_in.field-0.0 c.in-Some.ensures.next
    c.in_err-number_in.ensures.read in
    Match-refusal c.from_residual.result _ c.in_err-number_in.field-0.0 _ c.from_residual.ensures
    (c.loop-token.invariant.refused c.in_err-number_in.field-0.0 refused)

pub loop-token-preserved : goal.loop-token-preserved
loop-token-preserved c = record {
  seeds = All-same IsSeed _ _ c.in_ok-push.ensures.items (All-push IsSeed c.loop-token.seeds.items
      c.in_ok-number_in.field-0 c.loop-token.invariant.seeds c.in_ok-number_in.ensures.between);
  count = omega (arith, c.loop-token.invariant.count, ap length c.in-Some.ensures.next, ap length c.in_ok-push.ensures.items, length-append c.loop-token.seeds.items (c.in_ok-number_in.field-0 ∷ []));
  read = λ others is.
      let more =
      each-more (number_between 1 2147483646) c.loop-token.tokens c.next_token.new.self c.in-Some.token.now
      c.in_ok-number_in.field-0 others
      c.in-Some.ensures.next c.in_ok-number_in.ensures.read is in
      more-read c.loop-token.seeds.items c.push.new.self.items c.in_ok-number_in.field-0 others _
      c.in_ok-push.ensures.items
      (c.loop-token.invariant.read (c.in_ok-number_in.field-0 ∷ others) more);
  refused = λ refusal is.
      c.loop-token.invariant.refused refusal
      (each-later (number_between 1 2147483646) c.loop-token.tokens c.next_token.new.self c.in-Some.token.now
      c.in_ok-number_in.field-0 refusal c.in-Some.ensures.next c.in_ok-number_in.ensures.read is);
}

pub returns-in_err-push-clause-read : goal.returns-in_err-push-clause-read
returns-in_err-push-clause-read c =
    Match-memory c.from_residual-in_err-push.result _ _ c.from_residual-in_err-push.ensures
