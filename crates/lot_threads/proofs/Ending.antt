-- The possible lends when a trap ends: any that makes no cycle.
use Rattle.lot_threads.proofs.Common.{CanLend, Edge, Funding, FundsThere, HasNoCycle, IsBorrower, IsWay, Lend, LendReaches, List, Nobody, Node, OfLender, OfMutex, OfTicket, Some, ToMutex, ToThread, ap, at_number, ends_of, inl, inr, lend-edge, lend_node, lent_ends, no-way-back, number-set, number-set_same, number-there, refl, set_number, subst, suc, sym, ℕ, [], ◌-◌, ◌∙◌, ◌∷◌, ◌≡◌, ◌⊎◌}
use Rattle.lot_machine.specs.declared.funding.Node.TheVariants as node

module _ (f : Funding) (t : ℕ) (lend : Lend) (alone : at_number f.lends t ≡ Some Nobody) where
  -- each edge stays when a thread that lent to nobody lends
  more : (edge : Edge) (ends : Node × Node) → ends_of f edge ≡ Some ends
      → ends_of (record f { lends = set_number f.lends t lend }) edge ≡ Some ends
  more (OfTicket n) ends is = is
  more (OfMutex m) ends is = is
  more (OfLender u) ends is = by (number-set f.lends t lend u)
    where
      by : (at_number (set_number f.lends t lend) u ≡ at_number f.lends u)
          ⊎ ((u ≡ suc (t - 1)) × (at_number (set_number f.lends t lend) u ≡ Some lend))
          → lent_ends u (at_number (set_number f.lends t lend) u) ≡ Some ends
      by (inl same) = ap (lent_ends u) same ∙ is
      by (inr (at, set)) =
          let here : at_number f.lends u ≡ Some Nobody =
          ap (at_number f.lends) (at ∙ number-there f.lends t Nobody alone) ∙ alone in
          let no : lent_ends u (Some Nobody) ≡ Some ends = sym (ap (lent_ends u) here) ∙ is in
          cc

  way-more : (from : Node) (way : List Node) (to : Node) → IsWay f from way to
      → IsWay (record f { lends = set_number f.lends t lend }) from way to
  way-more from [] to is = is
  way-more from (next ∷ rest) to ((edge, ends), others) =
      ((edge, more edge (from, next) ends), way-more next rest to others)

  -- what is lent to doesn't reach the thread, if nothing makes a cycle then
  apart-ending : HasNoCycle (record f { lends = set_number f.lends t lend })
      → FundsThere (record f { lends = set_number f.lends t lend }) → ¬ LendReaches f lend t
  apart-ending no_cycle funds_there (next, to, (way, is)) =
      no-way-back (record f { lends = set_number f.lends t lend }) no_cycle funds_there (node.Thread t) next
      (lend-edge (record f { lends = set_number f.lends t lend }) t lend next
      (number-set_same f.lends t lend Nobody alone) to)
      (way, way-more next way (node.Thread t) is)

  -- so it may be lent, if who gets it is there
  pub may-lend : HasNoCycle (record f { lends = set_number f.lends t lend })
      → FundsThere (record f { lends = set_number f.lends t lend })
      → ((node : Node) → lend_node lend ≡ Some node → IsBorrower f lend) → CanLend f t lend
  may-lend no_cycle funds_there there = by lend refl
    where
      by : (l : Lend) → lend ≡ l → CanLend f t l
      by Nobody is = tt
      by (ToThread s) is = subst (λ (l : Lend). IsBorrower f l × (¬ LendReaches f l t)) is
          (there (node.Thread s) (ap lend_node is), apart-ending no_cycle funds_there)
      by (ToMutex m) is = subst (λ (l : Lend). IsBorrower f l × (¬ LendReaches f l t)) is
          (there (node.Mutex m) (ap lend_node is), apart-ending no_cycle funds_there)
