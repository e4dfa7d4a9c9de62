-- The result of taking the first thread of a queue, for any queue.
use Rattle.lot_queues.proofs.Common.{Fields, IfNone, IfSome, IsFree, IsNowhere, IsThere, List, NodeLists, None, Option, QueueLists, Some, ap, drop, length, node_at, nodes_of, option_map, refl, relisted, seen, set-get_or, slice_get, subst, sym, ℕ, [], ◌+◌, ◌<◌, ◌∙◌, ◌∷◌, ◌≡◌}
use Rattle.lot_queues.proofs.Changed.{with_lists}
use Rattle.lot_queues.proofs.Holds.{Holds, itself}
use Rattle.lot_queues.proofs.Taken.{first-within, others-nowhere, taken-nowhere, taken-there}

-- a list without a first element has nothing to drop
nothing-dropped : (xs : List ℕ) → slice_get xs 0 ≡ None → drop 1 xs ≡ xs
nothing-dropped [] none = refl
nothing-dropped (x ∷ xs) none = cc

-- a queue without a first node is left as it is
nobody-left : (lists : NodeLists) (list : ℕ) → node_at lists list 0 ≡ None
    → relisted lists list (drop 1 (nodes_of lists list)) ≡ lists
nobody-left lists list none = ap (relisted lists list) (nothing-dropped (nodes_of lists list) none)
    ∙ ap (λ ls. record lists { lists = ls }) (set-get_or lists.lists list [])

-- where nobody was taken, the fields hold what they held
taken-none : {f : Fields} {q : QueueLists} (held : Holds f q) {w : NodeLists} (list : ℕ) (node thread : Option ℕ)
    → node ≡ node_at f.lists list 0 → w ≡ relisted f.lists list (drop 1 (nodes_of f.lists list))
    → thread ≡ option_map (λ n. n + 1) node
    → IfNone thread (seen (with_lists f w) ≡ q)
taken-none {f = f} {q = q} held {w = w} list None thread first rest is =
    subst (λ (o : Option ℕ). IfNone o (seen (with_lists f w) ≡ q)) (sym is)
    (ap (λ (v : NodeLists). seen (with_lists f v)) (rest ∙ nobody-left f.lists list (sym first)) ∙ held.is)
taken-none {f = f} {q = q} held {w = w} list (Some n) thread first rest is =
    subst (λ (o : Option ℕ). IfNone o (seen (with_lists f w) ≡ q)) (sym is) tt

-- the fields hold what is left, or the same where nobody was taken; who was taken is there and in no queue; and who was in none still is in none
pub first-taken : {f : Fields} {q : QueueLists} (held : Holds f q)
    {w : NodeLists} {r : QueueLists} (after : Holds (with_lists f w) r) (list : ℕ) (node thread : Option ℕ)
    → list < length f.lists.lists → node ≡ node_at f.lists list 0
    → w ≡ relisted f.lists list (drop 1 (nodes_of f.lists list)) → IfSome node (IsFree w)
    → thread ≡ option_map (λ n. n + 1) node
    → (seen (with_lists f w) ≡ r) × IfNone thread (seen (with_lists f w) ≡ q)
    × IfSome thread (IsThere (seen (with_lists f w)).clients) × IfSome thread (IsNowhere (seen (with_lists f w)))
    × ((t : ℕ) → IsNowhere q t → IsNowhere (seen (with_lists f w)) t)
first-taken held {w = w} after list node thread below first rest free is =
    (after.is, taken-none held list node thread first rest is, taken-there held (itself after) list node thread first is, taken-nowhere held (itself after) node thread is free, others-nowhere held (itself after) (first-within held list w below rest))
