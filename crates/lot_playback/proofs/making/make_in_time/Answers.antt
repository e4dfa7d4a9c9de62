use Rattle.lot_playback.proofs.Lemmas.{CurrencyTable, FoundNodes, IsAtTime, IsNext, MadeTurn, MakesTurn, Seen, Stage, Timekeeper, length, looked-followed, subst, sym, ◌∙◌, ◌≡◌}
use Rattle.lot_playback.proofs.making.make_in_time.Goals as goal

-- what the search found is no part of the records of the turns made
looked : (seen : Seen) (timekeeper : Timekeeper) (above : FoundNodes)
    → above.layout ≡ timekeeper.currencies.above.layout → IsAtTime seen timekeeper
    → IsAtTime seen (record timekeeper { currencies = record timekeeper.currencies { above = above } })
looked seen timekeeper above layout there =
    record { timed = there.timed; followed = looked-followed seen.setting.program seen timekeeper above (layout ∙ there.followed.room.above) there.followed }

pub look-requires : goal.look-requires
look-requires c = record { layout = c.requires.there.followed.room.above }

pub make_and_follow-requires-clause-found : goal.make_and_follow-requires-clause-found
make_and_follow-requires-clause-found c = rw c.look.ensures.same c.look.ensures.found

pub make_and_follow-requires-clause-next : goal.make_and_follow-requires-clause-next
make_and_follow-requires-clause-next c = subst (λ (s : Seen).
    IsNext (record { seen = s; made = length s.history }) c.args.next) (sym c.look.ensures.same) c.requires.next

pub returns-clause-there : goal.returns-clause-there
returns-clause-there c = c.make_and_follow.ensures.there

pub returns-clause-made : goal.returns-clause-made
returns-clause-made c =
    let now : Stage =
    record { seen = c.make_and_follow.new.system; made = length c.make_and_follow.new.system.history } in
    subst (λ (s : Seen). (made : MadeTurn) × MakesTurn (record { seen = s; made = length s.history }) now
    c.make_and_follow.new.turn made) c.look.ensures.same c.make_and_follow.ensures.made

pub make_and_follow-requires-clause-there : goal.make_and_follow-requires-clause-there
make_and_follow-requires-clause-there c =
    let old = c.args.timekeeper.now in
    subst (λ (s : Seen). IsAtTime s (record old { currencies = c.look.new.self })) (sym c.look.ensures.same)
    (subst (λ (table : CurrencyTable). IsAtTime c.args.system.now (record old { currencies = table }))
    (sym c.look.ensures.rest)
    (looked c.args.system.now old c.look.new.self.above c.look.ensures.layout c.requires.there))
