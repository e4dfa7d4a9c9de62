-- Steps of a relation between numbers, one after another, and the changes of the relation that make no path back.
use Rattle.std.proofs.Common.{◌≡◌, ℕ, ◌⊎◌, inl, inr, List, [], ◌∷◌, ◌++◌, sym, subst}

-- from t each steps to the next of these, and the last of all is u
abbrev pub IsPath : (ℕ → ℕ → Type 0) → ℕ → List ℕ → ℕ → Type 0
IsPath R t [] u = t ≡ u
IsPath R t (s ∷ rest) u = R t s × IsPath R s rest u

-- steps, perhaps none, lead from t to u
abbrev pub Leads : (ℕ → ℕ → Type 0) → ℕ → ℕ → Type 0
Leads R t u = (chain : List ℕ) × IsPath R t chain u

-- one step or more leads from t to u
abbrev pub LeadsOn : (ℕ → ℕ → Type 0) → ℕ → ℕ → Type 0
LeadsOn R t u = (s : ℕ) × R t s × Leads R s u

-- nothing leads back to where it came from
abbrev pub HasNoReturn : (ℕ → ℕ → Type 0) → Type 0
HasNoReturn R = (t : ℕ) → ¬ LeadsOn R t t

-- one path, and after it another
pub path-then : (R : ℕ → ℕ → Type 0) (t : ℕ) (chain : List ℕ) (s : ℕ) (more : List ℕ) (u : ℕ) → IsPath R t chain s
    → IsPath R s more u → IsPath R t (chain ++ more) u
path-then R t [] s more u e is = subst (λ x. IsPath R x more u) (sym e) is
path-then R t (r ∷ rest) s more u (first, others) is = (first, path-then R r rest s more u others is)

pub path-fewer : (Q R : ℕ → ℕ → Type 0) → ((t s : ℕ) → Q t s → R t s) → (t : ℕ) (chain : List ℕ) (u : ℕ)
    → IsPath Q t chain u → IsPath R t chain u
path-fewer Q R within t [] u is = is
path-fewer Q R within t (s ∷ rest) u (first, others) = (within t s first, path-fewer Q R within s rest u others)

-- with fewer steps there is still no way back
pub fewer-steps : (Q R : ℕ → ℕ → Type 0) → ((t s : ℕ) → Q t s → R t s) → HasNoReturn R → HasNoReturn Q
fewer-steps Q R within none t (s, first, (chain, is)) =
    none t (s, within t s first, (chain, path-fewer Q R within s chain t is))

-- With one step more, from a to b, there is still none if nothing leads from b to a.
module _ (Q R : ℕ → ℕ → Type 0) (a b : ℕ) (either : (t s : ℕ) → Q t s → R t s ⊎ ((t ≡ a) × (s ≡ b))) where
  -- a path goes without the new step, or it leads to a and from b
  around : (t : ℕ) (chain : List ℕ) (u : ℕ) → IsPath Q t chain u → Leads R t u ⊎ (Leads R t a × Leads R b u)
  around t [] u e = inl ([], e)
  around t (s ∷ rest) u (first, others) = join (either t s first) (around s rest u others)
    where
      join : R t s ⊎ ((t ≡ a) × (s ≡ b)) → Leads R s u ⊎ (Leads R s a × Leads R b u)
          → Leads R t u ⊎ (Leads R t a × Leads R b u)
      join (inl old) (inl (chain, is)) = inl (s ∷ chain, (old, is))
      join (inl old) (inr ((chain, is), after)) = inr ((s ∷ chain, (old, is)), after)
      join (inr (from, to)) (inl (chain, is)) = inr (([], from), (chain, subst (λ x. IsPath R x chain u) to is))
      join (inr (from, to)) (inr (before, after)) = inr (([], from), after)

  pub one-step-more : ¬ Leads R b a → HasNoReturn R → HasNoReturn Q
  one-step-more apart none t (s, first, (rest, others)) = join (either t s first) (around s rest t others)
    where
      join : R t s ⊎ ((t ≡ a) × (s ≡ b)) → Leads R s t ⊎ (Leads R s a × Leads R b t) → ⊥
      join (inl old) (inl lead) = none t (s, old, lead)
      join (inl old) (inr ((before, to_a), (after, to_t))) =
          apart (after ++ s ∷ before, path-then R b after t (s ∷ before) a to_t (old, to_a))
      join (inr (from, to)) (inl (chain, is)) =
          apart (chain, subst (λ x. IsPath R b chain x) from (subst (λ x. IsPath R x chain t) to is))
      join (inr (from, to)) (inr (before, (after, is))) = apart (after, subst (λ x. IsPath R b after x) from is)

-- nothing comes next
abbrev pub IsEnd : (ℕ → ℕ → Type 0) → ℕ → Type 0
IsEnd R t = (s : ℕ) → ¬ R t s

-- With more steps, each to one from which nothing comes next, there is still none.
module _ (Q R : ℕ → ℕ → Type 0) (either : (t s : ℕ) → Q t s → R t s ⊎ IsEnd Q s) where
  -- a path from an end ends there
  last : (t : ℕ) (chain : List ℕ) (u : ℕ) → IsEnd Q t → IsPath Q t chain u → IsEnd Q u
  last t [] u ends e = subst (IsEnd Q) e ends
  last t (s ∷ rest) u ends (first, others) = absurd (ends s first)

  -- a path goes without the new steps, or it leads to an end
  before : (t : ℕ) (chain : List ℕ) (u : ℕ) → IsPath Q t chain u → Leads R t u ⊎ IsEnd Q u
  before t [] u e = inl ([], e)
  before t (s ∷ rest) u (first, others) = join (either t s first) (before s rest u others)
    where
      join : R t s ⊎ IsEnd Q s → Leads R s u ⊎ IsEnd Q u → Leads R t u ⊎ IsEnd Q u
      join old (inr ends) = inr ends
      join (inl old) (inl (chain, is)) = inl (s ∷ chain, (old, is))
      join (inr ends) (inl lead) = inr (last s rest u ends others)

  pub steps-to-ends : HasNoReturn R → HasNoReturn Q
  steps-to-ends none t (s, first, (rest, others)) = join (either t s first) (before s rest t others)
    where
      join : R t s ⊎ IsEnd Q s → Leads R s t ⊎ IsEnd Q t → ⊥
      join old (inr ends) = ends s first
      join (inl old) (inl lead) = none t (s, old, lead)
      join (inr ends) (inl lead) = last s rest t ends others s first

-- With more steps, all to w, there is still none if w steps nowhere.
pub steps-to-end : (Q R : ℕ → ℕ → Type 0) (w : ℕ) → ((t s : ℕ) → Q t s → R t s ⊎ (s ≡ w)) → IsEnd Q w → HasNoReturn R
    → HasNoReturn Q
steps-to-end Q R w either ends = steps-to-ends Q R (λ t s step. from s (either t s step))
  where
    from : {A : Type 0} (s : ℕ) → A ⊎ (s ≡ w) → A ⊎ IsEnd Q s
    from s (inl old) = inl old
    from s (inr at) = inr (subst (IsEnd Q) (sym at) ends)
