use Rattle.lot_graph.proofs.Lemmas.{Contains, Fields, IfNone, IfSome, IsFree, IsGraph, LimitedFunding, Option, ap, arith, funding_in, issuer_of, mirror-found, nodes_of, subst, sym, ℕ, ◌+◌, ◌∙◌, ◌≡◌}
use Rattle.lot_graph.proofs.graph.Graph.issuer_of.Goals as goal
use Rattle.lot_graph.proofs.graph.Graph.issuer_of.Goals.{After-list_of}

-- the list in which a ticket is found is its issuer
issuer-found : (s : Fields) → IsGraph s → (n place : ℕ) (found : Option ℕ) → place + 1 ≡ n
    → IfSome found (λ list. Contains (nodes_of s.issued list) place) → IfNone found (IsFree s.issued place)
    → found ≡ issuer_of (funding_in s) n
issuer-found s graph n place found number some none = mirror-found graph.issued place found some none
    ∙ ap (issuer_of (funding_in s)) number

listed : (c : After-list_of) → c.list_of.result ≡ issuer_of c.args.self.now.funding c.args.ticket
listed c =
    subst (λ (v : LimitedFunding). c.list_of.result ≡ issuer_of v.funding c.args.ticket) c.self.view_is
    (issuer-found _ c.self.invariant c.args.ticket c.index_of.result c.list_of.result
    (omega arith) c.list_of.ensures.found c.list_of.ensures.free)

pub returns-in_err-currency : goal.returns-in_err-currency
returns-in_err-currency c = c.from_residual.ensures ∙ sym c.in_err-currency.was
    ∙ listed (goal.at.returns-in_err-currency c).After-list_of

pub returns : goal.returns
returns c = sym c.in_ok-currency.was ∙ listed (goal.at.returns c).After-list_of
