-- One of two currencies alone funds its two threads: base leads to the currencies only.
use Rattle.lot_laws.proofs.Common.{Currency, Edge, EnclosesAlone, Funding, Nobody, Node, None, OfLender, OfMutex, OfTicket, Some, Thread, after, ap, arith, at_number, at_number-suc, ends_of, false, first_threads, funding_of, inl, inr, some-injective, suc, sym, three_threads, true, zero, ℕ, [], ◌<◌, ◌∷◌, ◌≡◌, ◌⊎◌}
use Rattle.lot_machine.specs.declared.ticket.Target.TheVariants as target
use Rattle.lot_laws.proofs.KeptPaths.{currency-one}
use Rattle.lot_laws.proofs.KeptValues.{ends}
use Rattle.lot_laws.proofs.TwoCurrencies.{amount-changes-inside}

-- two currencies of 100 base, the first with two threads and the second with one
graph : Funding
graph = record {
  currencies = true ∷ true ∷ true ∷ [];
  tickets = Some (record { amount = 100; issuer = 0; target = target.Currency 1 })
      ∷ Some (record { amount = 100; issuer = 0; target = target.Currency 2 })
      ∷ Some (record { amount = 1; issuer = 1; target = target.Thread 1 })
      ∷ Some (record { amount = 1; issuer = 2; target = target.Thread 2 })
      ∷ Some (record { amount = 1; issuer = 1; target = target.Thread 3 }) ∷ [];
  lends = Nobody ∷ Nobody ∷ Nobody ∷ [];
  owners = None ∷ None ∷ [];
}

from-of : (a b from to : Node) → ends a b ≡ ends from to → a ≡ from
from-of a b from to e = ap (λ (x : Node × Node). x.0) (some-injective _ _ e)

to-of : (a b from to : Node) → ends a b ≡ ends from to → b ≡ to
to-of a b from to e = ap (λ (x : Node × Node). x.1) (some-injective _ _ e)

not-base : (c : ℕ) (b to : Node) → 0 < c → ¬ (ends (Currency c) b ≡ ends (Currency 0) to)
not-base c b to some e = absurd (omega (arith, some, currency-one c 0 (from-of (Currency c) b (Currency 0) to e)))

-- where base leads
base-leads : (edge : Edge) (to : Node) → ends_of graph edge ≡ ends (Currency 0) to
    → (Currency 1 ≡ to) ⊎ (Currency 2 ≡ to)
unfolding graph
base-leads (OfTicket zero) to is = cc
base-leads (OfTicket (suc zero)) to is = inl (to-of (Currency 0) (Currency 1) (Currency 0) to is)
base-leads (OfTicket (suc (suc zero))) to is = inr (to-of (Currency 0) (Currency 2) (Currency 0) to is)
base-leads (OfTicket (suc (suc (suc zero)))) to is = absurd (not-base 1 (Thread 1) to (omega arith) is)
base-leads (OfTicket (suc (suc (suc (suc zero))))) to is = absurd (not-base 2 (Thread 2) to (omega arith) is)
base-leads (OfTicket (suc (suc (suc (suc (suc zero)))))) to is = absurd (not-base 1 (Thread 3) to (omega arith) is)
base-leads (OfTicket (suc (suc (suc (suc (suc (suc n))))))) to is =
    let none : at_number graph.tickets (suc (suc (suc (suc (suc (suc n)))))) ≡ None =
    at_number-suc graph.tickets (suc (suc (suc (suc (suc n))))) in
    let gone = rw none at is in cc
base-leads (OfLender zero) to is = cc
base-leads (OfLender (suc zero)) to is = cc
base-leads (OfLender (suc (suc zero))) to is = cc
base-leads (OfLender (suc (suc (suc zero)))) to is = cc
base-leads (OfLender (suc (suc (suc (suc n))))) to is =
    let none : at_number graph.lends (suc (suc (suc (suc n)))) ≡ None =
    at_number-suc graph.lends (suc (suc (suc n))) in
    let gone = rw none at is in cc
base-leads (OfMutex zero) to is = cc
base-leads (OfMutex (suc zero)) to is = cc
base-leads (OfMutex (suc (suc zero))) to is = cc
base-leads (OfMutex (suc (suc (suc n)))) to is =
    let none : at_number graph.owners (suc (suc (suc n))) ≡ None = at_number-suc graph.owners (suc (suc n)) in
    let gone = rw none at is in cc

outside : (to : Node) → (Currency 1 ≡ to) ⊎ (Currency 2 ≡ to) → first_threads to ≡ false
outside to (inl is) = ap first_threads (sym is)
outside to (inr is) = ap first_threads (sym is)

pub funded-alone : EnclosesAlone (funding_of (after three_threads)) 1 first_threads
unfolding graph
funded-alone = record {
  enclosed = amount-changes-inside.enclosed_before;
  no_base = λ to edge. outside to (base-leads edge.0 to edge.1);
}
