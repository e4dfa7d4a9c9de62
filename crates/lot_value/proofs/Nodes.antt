-- Nodes within the limits.
use Rattle.lot_value.proofs.Common.{Contains, Currency, IsNodeOf, IsNodeWithin, LimitedFunding, List, Mutex, Node, Thread, ap, arith, cases_eq, contains-later, contains-nothing, inl, inr, layout_of, zero, ℕ, [], ◌∷◌, ◌≡◌, ◌⊎◌}
use Rattle.lot_value.proofs.Listed.{contains-cases}

pub node-within : (w : LimitedFunding) (node : Node) → IsNodeOf w node → IsNodeWithin (layout_of w) node
node-within w (Currency c) is = is
node-within w (Thread t) is = is
node-within w (Mutex m) is = is

pub within-node : (w : LimitedFunding) (node : Node) → IsNodeWithin (layout_of w) node → IsNodeOf w node
within-node w (Currency c) is = is
within-node w (Thread t) is = is
within-node w (Mutex m) is = is

abbrev pub node-number : Node → ℕ
node-number (Currency c) = c
node-number (Thread t) = t
node-number (Mutex m) = m

-- two nodes are the same or not
pub same-or-not : (a b : Node) → (a ≡ b) ⊎ (¬ (a ≡ b))
same-or-not (Currency c) (Currency d) = by (cases_eq c d)
  where
    by : (c ≡ d) ⊎ (¬ (c ≡ d)) → (Currency c ≡ Currency d) ⊎ (¬ (Currency c ≡ Currency d))
    by (inl same) = inl (ap Currency same)
    by (inr off) = inr (λ same. off (ap node-number same))
same-or-not (Currency c) (Thread u) = inr (λ same. cc)
same-or-not (Currency c) (Mutex n) = inr (λ same. cc)
same-or-not (Thread t) (Currency d) = inr (λ same. cc)
same-or-not (Thread t) (Thread u) = by (cases_eq t u)
  where
    by : (t ≡ u) ⊎ (¬ (t ≡ u)) → (Thread t ≡ Thread u) ⊎ (¬ (Thread t ≡ Thread u))
    by (inl same) = inl (ap Thread same)
    by (inr off) = inr (λ same. off (ap node-number same))
same-or-not (Thread t) (Mutex n) = inr (λ same. cc)
same-or-not (Mutex m) (Currency d) = inr (λ same. cc)
same-or-not (Mutex m) (Thread u) = inr (λ same. cc)
same-or-not (Mutex m) (Mutex n) = by (cases_eq m n)
  where
    by : (m ≡ n) ⊎ (¬ (m ≡ n)) → (Mutex m ≡ Mutex n) ⊎ (¬ (Mutex m ≡ Mutex n))
    by (inl same) = inl (ap Mutex same)
    by (inr off) = inr (λ same. off (ap node-number same))

-- a list of nodes contains a node or not
pub contains-or : (xs : List Node) (x : Node) → Contains xs x ⊎ (¬ Contains xs x)
contains-or [] x = inr (contains-nothing x)
contains-or (y ∷ ys) x = by (same-or-not y x) (contains-or ys x)
  where
    by : (y ≡ x) ⊎ (¬ (y ≡ x)) → Contains ys x ⊎ (¬ Contains ys x) → Contains (y ∷ ys) x ⊎ (¬ Contains (y ∷ ys) x)
    by (inl same) rest = inl (zero, omega arith, same)
    by (inr off) (inl c) = inl (contains-later y ys x c)
    by (inr off) (inr none) = inr (λ c. neither (contains-cases y ys x c))
      where
        neither : (y ≡ x) ⊎ Contains ys x → ⊥
        neither (inl same) = off same
        neither (inr c) = none c
