use Rattle.lot_playback.proofs.Common.{IsOwed, ap, if◌then◌else◌, is_number, slice_index_or, subst, sym, ◌+◌, ◌∙◌}
use Rattle.lot_playback.proofs.dues.DueTable.forget_new.Goals as goal

pub returns-in-Some-clause-owed : goal.returns-in-Some-clause-owed
returns-in-Some-clause-owed c e parts owed place d below =
    let made = sym (c.made.ensures e (place + 1) ∙ ap (is_number (place + 1)) c.in-Some.is) in
    subst (λ k. IsOwed c.args.self.now.rate k (slice_index_or c.forget.new.self.places.items place d))
    (ap (λ b. if b then 0 else parts (place + 1)) made) (c.forget.ensures.owed parts owed place d below)

pub returns-in_default-clause-owed : goal.returns-in_default-clause-owed
returns-in_default-clause-owed c e parts owed place d below =
    let made = sym (c.made.ensures e (place + 1) ∙ ap (is_number (place + 1)) c.in_default.is) in
    subst (λ k. IsOwed c.args.self.now.rate k (slice_index_or c.args.self.now.places.items place d))
    (ap (λ b. if b then 0 else parts (place + 1)) made) (owed place d below)
