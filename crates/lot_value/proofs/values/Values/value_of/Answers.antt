use Rattle.lot_value.proofs.Lemmas.{IsNodeWithin, Known, Layout, ap, arith, get_or_read, length, list-low, right-worth, slice_index, subst, sym, value_in, ◌<◌, ◌∙◌}
use Rattle.lot_value.proofs.values.Values.value_of.Goals as goal

pub returns-clause-worth : goal.returns-clause-worth
returns-clause-worth c fresh w live sound fits right has =
    let l = c.self.inside.layout in
    let node = c.args.node in
    let within : IsNodeWithin l node =
    subst (λ (k : Known). IsNodeWithin k.layout node) (sym c.self.view_is) c.requires.node in
    let low : c.list_of.result < length c.self.inside.values.items =
    omega (arith, list-low l node within, c.list_of.ensures, c.self.invariant.1) in
    get_or_read c.self.inside.values.items c.list_of.result c.index.result.now low c.index.ensures 0
    ∙ ap (λ place. slice_index c.self.inside.values.items place) c.list_of.ensures
    ∙ ap (λ (k : Known). value_in k node) c.self.view_is
    ∙ right-worth w live c.args.self.now sound fits right node fresh
    (subst (λ (x : Layout). IsNodeWithin x node) right.layout c.requires.node) has
