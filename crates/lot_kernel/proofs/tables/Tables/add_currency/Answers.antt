use Rattle.lot_kernel.proofs.Lemmas.{Snapshot, Some, ap, currency-last, first-currency, free_currencies, last-currency, length, no-first, subst, sym, [], ◌++◌, ◌∙◌, ◌∷◌, ◌≤◌}
use Rattle.lot_kernel.proofs.Reusing.{currency-room}
use Rattle.lot_kernel.proofs.tables.Tables.add_currency.Goals as goal

pub add_currency_last-requires : goal.add_currency_last-requires
add_currency_last-requires c =
    let s = c.args.self.now.state in
    let none = no-first (free_currencies s) (sym c.in-None.ensures.number) in
    subst (λ (x : Snapshot). length x.state.currencies ≤ x.state.limits.currencies) (sym c.in-None.ensures.unchanged)
    (currency-room s none c.requires.room)

pub returns-in-Some-clause-number : goal.returns-in-Some-clause-number
returns-in-Some-clause-number c = first-currency c.args.self.now.state c.in-Some.number c.in-Some.ensures.number

pub returns-in-None-clause-number : goal.returns-in-None-clause-number
returns-in-None-clause-number c =
    let s = c.args.self.now.state in
    c.add_currency_last.ensures.number ∙ ap (λ (x : Snapshot). length x.state.currencies) c.in-None.ensures.unchanged
    ∙ sym (last-currency s (no-first (free_currencies s) (sym c.in-None.ensures.number)))

pub returns-in-None-clause-made : goal.returns-in-None-clause-made
returns-in-None-clause-made c =
    let old = c.args.self.now in
    let none = no-first (free_currencies old.state) (sym c.in-None.ensures.number) in
    let given = none ∙ sym c.in-None.ensures.none in
    c.add_currency_last.ensures.made ∙ ap (λ (x : Snapshot).
    record x { state = record x.state { currencies = x.state.currencies ++ Some c.args.name.now ∷ [] } })
    c.in-None.ensures.unchanged
    ∙ ap (λ s. record old { state = s }) (currency-last old.state c.args.name.now given none)
