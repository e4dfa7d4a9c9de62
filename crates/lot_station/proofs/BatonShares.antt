-- Facts about histories and about lists of views.
use Rattle.lot_station.proofs.Common.{AllFit, Bool, Claim, IsClaimOf, List, Seen, Sees, SeesAll, StartsWith, View, add-zero, ap, append-nil, append_assoc, arith, at_set, claim, cond, eq-eqb, false, get_elem?, if◌then◌else◌, inl, inr, is_count_by, length, map, ne_eqb, refl, set, some, some-injective, some-ne-none, subst, suc, sym, true, turns_by, zero, ℕ, [], ⊎_elim, ◌++◌, ◌+◌, ◌<◌, ◌==◌, ◌∙◌, ◌∷◌, ◌≡◌, ◌≢◌, ◌≤◌, ◌⊎◌}

-- how many turns of the actor there are, a turn at a time
counted : ℕ → List ℕ → ℕ
counted a [] = 0
counted a (x ∷ xs) = (if x == a then 1 else 0) + counted a xs

one_more : (b : Bool) (n : ℕ) → (if b then 1 else 0) + n ≡ cond b (1 + n) n
one_more true n = refl
one_more false n = omega arith

counted-is : (a : ℕ) (h : List ℕ) → counted a h ≡ turns_by a h
unfolding counted
counted-is a h = is_count_by (counted a) (λ x. x == a) refl (λ x xs. one_more (x == a) (counted a xs)) h

counted-append : (a : ℕ) (xs ys : List ℕ) → counted a (xs ++ ys) ≡ counted a xs + counted a ys
unfolding counted
counted-append a [] ys = omega arith
counted-append a (x ∷ xs) ys = omega (arith, counted-append a xs ys)

pub turns_by-cons : (a x : ℕ) (h : List ℕ) → turns_by a (x ∷ h) ≡ (if x == a then 1 else 0) + turns_by a h
unfolding counted
turns_by-cons a x h = sym (counted-is a (x ∷ h)) ∙ ap (λ n. (if x == a then 1 else 0) + n) (counted-is a h)

pub turns_by-append : (a : ℕ) (xs ys : List ℕ) → turns_by a (xs ++ ys) ≡ turns_by a xs + turns_by a ys
turns_by-append a xs ys = sym (counted-is a (xs ++ ys)) ∙ counted-append a xs ys
    ∙ (λ i. counted-is a xs i + counted-is a ys i)

pub turns_by-own : (a : ℕ) → turns_by a (a ∷ []) ≡ 1
turns_by-own a = turns_by-cons a a [] ∙ ap (λ (b : Bool). (if b then 1 else 0) + 0) (eq-eqb a a refl)

pub turns_by-other : (a x : ℕ) → x ≢ a → turns_by a (x ∷ []) ≡ 0
turns_by-other a x apart = turns_by-cons a x [] ∙ ap (λ (b : Bool). (if b then 1 else 0) + 0) (ne_eqb x a apart)

pub starts_self : (h : List ℕ) → StartsWith h h
starts_self h = ([], sym (append-nil h))

pub starts_more : (h more s : List ℕ) → StartsWith h s → StartsWith (h ++ more) s
starts_more h more s p = (p.0 ++ more, ap (λ l. l ++ more) p.1 ∙ append_assoc s p.0 more)

pub starts_trans : (h k s : List ℕ) → StartsWith h k → StartsWith k s → StartsWith h s
starts_trans h k s p q = (q.0 ++ p.0, p.1 ∙ ap (λ l. l ++ p.0) q.1 ∙ append_assoc s q.0 p.0)

pub sees_self : (from to : ℕ) (x : Seen) → Sees x (claim from to x)
sees_self from to x = ((refl, starts_self x.history), λ a low high. refl)

-- the last place, or one before
pub at_end : (l : List View) (a b : View) (j : ℕ) → get_elem? (l ++ a ∷ []) j ≡ some b
    → (get_elem? l j ≡ some b) ⊎ ((j ≡ length l) × (a ≡ b))
at_end [] a b zero e = inr (refl, some-injective a b e)
at_end [] a b (suc j) e = absurd (some-ne-none b (sym e))
at_end (x ∷ xs) a b zero e = inl e
at_end (x ∷ xs) a b (suc j) e = ⊎_elim (λ p. inl p) (λ p. inr (ap suc p.0, p.1)) (at_end xs a b j e)

pub views_set : (F : ℕ → View → Type 0) (views : List View) (port : ℕ) (w : View) → F port w
    → ((j : ℕ) (u : View) → j ≢ port → get_elem? views j ≡ some u → F j u)
    → (j : ℕ) (u : View) → get_elem? (set views port w) j ≡ some u → F j u
views_set F views port w mine others j u e =
    ⊎_elim
    (λ (x : (j ≡ port) × (w ≡ u)). subst (λ (y : ℕ × View). F y.0 y.1) (λ i. (sym x.0 i, x.1 i)) mine)
    (λ (x : (j ≢ port) × (get_elem? views j ≡ some u)). others j u x.0 x.1)
    (at_set views port j w u e)

-- at the new system, if those whose actor is another's see no turn of their own
pub record Moved (owner : ℕ → ℕ) (now x : Seen) (port : ℕ) : Type 0 where
  pub setting : x.setting ≡ now.setting
  pub rest : List ℕ
  pub longer : x.history ≡ now.history ++ rest
  pub others : (a : ℕ) → owner a ≢ port → turns_by a rest ≡ 0

fit_moved : (owner : ℕ → ℕ) (now x : Seen) (port j : ℕ) → Moved owner now x port → j ≢ port → (c : Claim)
    → IsClaimOf owner now j c → IsClaimOf owner x j c
fit_moved owner now x port j m apart c f =
    let start : StartsWith x.history c.seen.history =
    subst (λ h. StartsWith h c.seen.history) (sym m.longer) (starts_more now.history m.rest c.seen.history f.0.0.1) in
    let same : (a : ℕ) → c.from ≤ a → a < c.to → turns_by a x.history ≡ turns_by a c.seen.history =
    λ a low high.
    let none = m.others a (λ e. apart (sym (f.1 a low high) ∙ e)) in
    ap (turns_by a) m.longer ∙ turns_by-append a now.history m.rest ∙ ap (λ n. turns_by a now.history + n) none
    ∙ add-zero (turns_by a now.history) ∙ f.0.1 a low high in
    (((m.setting ∙ f.0.0.0, start), same), f.1)

pub all_moved : (owner : ℕ → ℕ) (now x : Seen) (port j : ℕ) → Moved owner now x port → j ≢ port → (cs : List Claim)
    → AllFit owner now j cs → AllFit owner x j cs
all_moved owner now x port j m apart [] f = tt
all_moved owner now x port j m apart (c ∷ cs) f =
    (fit_moved owner now x port j m apart c f.0, all_moved owner now x port j m apart cs f.1)

-- the same claims, of another pass or under other owners
pub all_owned : (owner other : ℕ → ℕ) (now : Seen) (j k : ℕ) → ((a : ℕ) → owner a ≡ j → other a ≡ k) → (cs : List Claim)
    → AllFit owner now j cs → AllFit other now k cs
all_owned owner other now j k f [] h = tt
all_owned owner other now j k f (c ∷ cs) h =
    ((h.0.0, λ a low high. f a (h.0.1 a low high)), all_owned owner other now j k f cs h.1)

pub all_both : (owner : ℕ → ℕ) (now : Seen) (j : ℕ) (cs ds : List Claim) → AllFit owner now j cs → AllFit owner now j ds
    → AllFit owner now j (cs ++ ds)
all_both owner now j [] ds f g = g
all_both owner now j (c ∷ cs) ds f g = (f.0, all_both owner now j cs ds f.1 g)

pub all_noted : (owner : ℕ → ℕ) (now : Seen) (j k : ℕ) (cs : List Claim) → AllFit owner now j cs
    → AllFit owner now k (map (λ c. claim 0 0 c.seen) cs)
all_noted owner now j k [] f = tt
all_noted owner now j k (c ∷ cs) f =
    (((f.0.0.0, λ a low high. absurd (omega (arith, high))), λ a low high. absurd (omega (arith, high))), all_noted owner now j k cs f.1)

pub all_seen : (owner : ℕ → ℕ) (now x : Seen) (j : ℕ) → x ≡ now → (cs : List Claim) → AllFit owner now j cs
    → SeesAll x cs
all_seen owner now x j is [] f = tt
all_seen owner now x j is (c ∷ cs) f = (subst (λ y. Sees y c) (sym is) f.0.0, all_seen owner now x j is cs f.1)
