-- Each step keeps the rule.
use Rattle.lot_station.proofs.Common.{AllFit, Bool, Claim, Forks, HoldsSystem, Kept, Learns, List, Merges, Next, None, Opened, Pops, Pushes, Seen, SeesAll, Some, View, ViewFits, all_actors, all_but_first, ap, append-nil, arith, at_longer, at_set, claim, content, dite, eq-eqb, false, first_actor, first_only, gave, get_elem?, holding, if◌then◌else◌, inl, inr, length, ne_eqb, newcomer, note_of, refl, resting, set, set_again, set_else, some, some-injective, some-ne-none, subst, suc, sym, together, took, true, true≢false, zero, ℕ, ℕ_discrete, [], ⊎_elim, ◌++◌, ◌+◌, ◌<◌, ◌==◌, ◌∙◌, ◌∷◌, ◌≡◌, ◌≢◌, ◌≤◌}
use Rattle.lot_station.proofs.BatonShares.{turns_by-other, sees_self, at_end, views_set, Moved, all_moved, all_owned, all_both, all_noted, all_seen}

single : (j : ℕ) (u : View) → get_elem? (newcomer ∷ []) j ≡ some u → (j ≡ 0) × (u ≡ newcomer)
single zero u e = (refl, sym (some-injective _ _ e))
single (suc j) u e = absurd (some-ne-none u (sym e))

opened : (items : List Seen) (views : List View) (port : ℕ) (v : View) → v.fresh ≡ false → Kept items views
    → get_elem? views port ≡ some v → Opened items views
opened items views port v old h at =
    ⊎_elim
    (λ (p : (items ≡ []) × (views ≡ newcomer ∷ [])).
    let s = single port v (ap (λ l. get_elem? l port) (sym p.1) ∙ at) in
    absurd (true≢false (ap (λ (y : View). y.fresh) (sym s.1) ∙ old)))
    (λ (p : Opened items views). p)
    h

alone : (items : List Seen) (views : List View) (port : ℕ) (v : View) → v.fresh ≡ true → Kept items views
    → get_elem? views port ≡ some v → (items ≡ []) × (views ≡ newcomer ∷ [])
alone items views port v new h at =
    ⊎_elim
    (λ (p : (items ≡ []) × (views ≡ newcomer ∷ [])). p)
    (λ (p : Opened items views). absurd (true≢false (sym new ∙ (p.6 port v at).0)))
    h

none_some : (x : Seen) → None ≡ Some x → ⊥
none_some x e = cc

some_same : (x y : Seen) → Some x ≡ Some y → x ≡ y
some_same x y e = cc

-- a pass that has nothing in its hands
at_rest : (owner : ℕ → ℕ) (now : Seen) (out : Bool) (holder port : ℕ) (cs : List Claim) → AllFit owner now port cs
    → ViewFits owner now out holder port (resting cs)
at_rest owner now out holder port cs f = (refl, f, λ x e. absurd (none_some x e))

at_here : (views : List View) (port : ℕ) (v w : View) → get_elem? views port ≡ some v
    → get_elem? (set views port w) port ≡ some w
at_here [] port v w at = absurd (some-ne-none v (sym at))
at_here (x ∷ xs) zero v w at = refl
at_here (x ∷ xs) (suc port) v w at = at_here xs port v w at

-- who holds nothing is not the holder
not_here : (views : List View) (port : ℕ) (v u : View) (x : Seen) (j : ℕ) → v.held ≡ None
    → get_elem? views port ≡ some v → get_elem? views j ≡ some u → u.held ≡ Some x → j ≢ port
not_here views port v u x j empty at there held e =
    none_some x
    (sym empty ∙ ap (λ (y : View). y.held) (some-injective _ _ (sym at ∙ ap (get_elem? views) (sym e) ∙ there)) ∙ held)

pub begins : Kept [] (newcomer ∷ [])
begins = inl (refl, refl)

pub opens : (n port : ℕ) (v : View) (x : Seen) → v ≡ newcomer
    → Pushes Kept n port v x (λ w. w ≡ resting (all_actors x ∷ []))
opens n port v x is items views room h at =
    let w = resting (all_actors x ∷ []) in
    let first = alone items views port v (ap (λ (y : View). y.fresh) is) h at in
    let zeroth : (j : ℕ) (u : View) → get_elem? views j ≡ some u → j ≡ 0 =
    λ j u e. (single j u (ap (λ l. get_elem? l j) (sym first.1) ∙ e)).0 in (
      w,
      inr (
        (λ a. port),
        x,
        false,
        0,
        ap (λ l. l ++ x ∷ []) first.0,
        (λ e. absurd (true≢false (sym e))),
        views_set (ViewFits (λ a. port) x false 0) views port w
            (at_rest (λ a. port) x false 0 port (all_actors x ∷ [])
            ((sees_self 0 4294967296 x, λ a low high. refl), tt))
            (λ j u apart e. absurd (apart (zeroth j u e ∙ sym (zeroth port v at)))),
      ),
      refl,
    )

out_empty : (b : Bool) (now : Seen) (items : List Seen) → items ≡ content b now → b ≡ true → items ≡ []
out_empty b now items e out = e ∙ ap (λ x. content x now) out

pub gives_out : (port : ℕ) (v : View) (was : Seen) (c : Claim) → v ≡ holding was c
    → Learns Kept port v (λ items. items ≡ [])
gives_out port v was c is items views h at =
    let o = opened items views port v (ap (λ (y : View). y.fresh) is) h at in
    let held = (o.6 port v at).2 was (ap (λ (y : View). y.held) is) in
    out_empty o.2 o.1 items o.4 held.0

next_moved : (owner : ℕ → ℕ) (now x : Seen) (port : ℕ) (c : Claim) → ((a : ℕ) → c.from ≤ a → a < c.to → owner a ≡ port)
    → Next c now x → Moved owner now x port
next_moved owner now x port c mine next =
    ⊎_elim
    (λ (same : x.history ≡ now.history).
    let m : Moved owner now x port =
    record { setting = next.0; rest = []; longer = same ∙ sym (append-nil now.history); others = λ a apart. refl } in m)
    (λ (turn : (x.history ≡ now.history ++ c.from ∷ []) × (c.from < c.to)).
    let m : Moved owner now x port =
    record {
      setting = next.0;
      rest = c.from ∷ [];
      longer = turn.0;
      others = λ a apart. turns_by-other a c.from (λ e. apart (ap owner (sym e) ∙ mine c.from (omega arith) turn.1));
    } in
    m)
    next.1

pub gives : (n port : ℕ) (v : View) (x was : Seen) (c : Claim) → v ≡ holding was c → Next c was x
    → Pushes Kept n port v x (λ w. w ≡ gave v x)
gives n port v x was c is next items views room h at =
    let o = opened items views port v (ap (λ (y : View). y.fresh) is) h at in
    let mine = o.6 port v at in
    let held = mine.2 was (ap (λ (y : View). y.held) is) in
    let fits = (subst (λ (y : View). AllFit o.0 o.1 port y.claims) is mine.1).0 in
    let m = next_moved o.0 o.1 x port c fits.1 (subst (λ y. Next c y x) held.2 next) in
    let w = gave v x in
    let now : ViewFits o.0 x false o.3 port w =
    subst (λ (y : View). ViewFits o.0 x false o.3 port (gave y x)) (sym is)
    (at_rest o.0 x false o.3 port (claim c.from c.to x ∷ []) ((sees_self c.from c.to x, fits.1), tt)) in (
      w,
      inr (
        o.0,
        x,
        false,
        o.3,
        ap (λ l. l ++ x ∷ []) (out_empty o.2 o.1 items o.4 held.0),
        (λ e. absurd (true≢false (sym e))),
        views_set (ViewFits o.0 x false o.3) views port w now
            (λ j u apart e.
            let theirs = o.6 j u e in
            (theirs.0, all_moved o.0 o.1 x port j m apart u.claims theirs.1, λ y f. absurd (apart ((theirs.2 y f).1 ∙ sym held.1)))),
      ),
      refl,
    )

in_queue : (b : Bool) (now x : Seen) (items : List Seen) → x ∷ items ≡ content b now
    → (b ≡ false) × (x ≡ now) × (items ≡ [])
in_queue true now x items e = absurd cc
in_queue false now x items e = (refl, cc, cc)

first_fits : (owner : ℕ → ℕ) (now : Seen) (port : ℕ) (cs : List Claim) → AllFit owner now port cs
    → AllFit owner now port (first_only cs)
first_fits owner now port [] f = tt
first_fits owner now port (c ∷ cs) f = (f.0, tt)

pub takes : (port : ℕ) (v : View) → v.fresh ≡ false → Pops Kept port v (λ x w. SeesAll x v.claims × (w ≡ took v x))
takes port v old x items views h at =
    let o = opened (x ∷ items) views port v old h at in
    let q = in_queue o.2 o.1 x items o.4 in
    let mine = o.6 port v at in
    let w = took v x in (
      w,
      inr (
        o.0,
        o.1,
        true,
        port,
        q.2,
        (λ _. (w, x, at_here views port v w at, refl)),
        views_set (ViewFits o.0 o.1 true port) views port w
            (refl, first_fits o.0 o.1 port v.claims mine.1, λ y e. (refl, refl, sym (some_same x y e) ∙ q.1))
            (λ j u apart e. let theirs = o.6 j u e in
            (theirs.0, theirs.1, λ y f. absurd (true≢false (sym (theirs.2 y f).0 ∙ q.0)))),
      ),
      (all_seen o.0 o.1 x port q.1 v.claims mine.1, refl),
    )

pub deals : (port : ℕ) (v : View) (f t : ℕ) (s : Seen) → v ≡ resting (claim f t s ∷ []) → f < t
    → Forks Kept port v (all_but_first v) (first_actor v)
deals port v f t s is left_over items views h at =
    let o = opened items views port v (ap (λ (y : View). y.fresh) is) h at in
    let fits = (subst (λ (y : View). AllFit o.0 o.1 port y.claims) is (o.6 port v at).1).0 in
    let left = all_but_first v in
    let right = first_actor v in
    let l = set views port left in
    let new = length l in
    let owner : ℕ → ℕ = λ a. if a == f then new else o.0 a in
    let yes : (a : ℕ) → a ≡ f → owner a ≡ new = λ a e. ap (λ (b : Bool). if b then new else o.0 a) (eq-eqb a f e) in
    let no : (a : ℕ) → a ≢ f → owner a ≡ o.0 a = λ a e. ap (λ (b : Bool). if b then new else o.0 a) (ne_eqb a f e) in
    let G : ℕ → View → Type 0 = ViewFits owner o.1 o.2 o.3 in
    let mine : ViewFits owner o.1 o.2 o.3 port left =
    subst (λ (y : View). ViewFits owner o.1 o.2 o.3 port (all_but_first y)) (sym is)
    (at_rest owner o.1 o.2 o.3 port (claim (f + 1) t s ∷ [])
    (((fits.0.0, λ a low high. fits.0.1 a (omega (arith, low)) high), λ a low high. no a (λ e. absurd (omega (arith, low, e))) ∙ fits.1 a (omega (arith, low)) high), tt)) in
    let olds : (j : ℕ) (u : View) → get_elem? l j ≡ some u → ViewFits owner o.1 o.2 o.3 j u =
    views_set (ViewFits owner o.1 o.2 o.3) views port left mine
    (λ j u apart e.
    let theirs = o.6 j u e in
    (theirs.0, all_owned o.0 owner o.1 j j (λ a is_j. no a (λ same. apart (sym is_j ∙ ap o.0 same ∙ fits.1 f (omega arith) left_over)) ∙ is_j) u.claims theirs.1, theirs.2)) in
    let fresh : (j : ℕ) → j ≡ new → ViewFits owner o.1 o.2 o.3 j right =
    λ j last.
    subst (λ (y : View). ViewFits owner o.1 o.2 o.3 j (first_actor y)) (sym is)
    (at_rest owner o.1 o.2 o.3 j (claim f (f + 1) s ∷ [])
    (((fits.0.0, λ a low high. fits.0.1 a low (omega (arith, low, high, left_over))), λ a low high. yes a (omega (arith, low, high)) ∙ sym last), tt)) in
    inr (
      owner,
      o.1,
      o.2,
      o.3,
      o.4,
      (λ out. let h = o.5 out in let away = not_here views port v h.0 h.1 o.3 (ap (λ (y : View). y.held) is) at h.2
          h.3 in (h.0, h.1, at_longer l (right ∷ []) o.3 h.0 (set_else views port o.3 left away ∙ h.2), h.3)),
      λ j u e. ⊎_elim (λ (p : get_elem? l j ≡ some u). olds j u p) (λ (p : (j ≡ new) × (right ≡ u)).
          subst (ViewFits owner o.1 o.2 o.3 j) p.1 (fresh j p.0)) (at_end l right u j e),
    )

pub notes : (port : ℕ) (v : View) → v.fresh ≡ false → Forks Kept port v v (note_of v)
notes port v old items views h at =
    let o = opened items views port v old h at in
    let mine = o.6 port v at in
    inr (
      o.0,
      o.1,
      o.2,
      o.3,
      o.4,
      (λ out. let h = o.5 out in (h.0, h.1, at_longer (set views port v) (note_of v ∷ []) o.3 h.0 (ap (λ l. get_elem? l o.3) (set_again views port v at) ∙ h.2), h.3)),
      λ j u e. ⊎_elim
          (λ (p : get_elem? (set views port v) j ≡ some u).
          o.6 j u (subst (λ l. get_elem? l j ≡ some u) (set_again views port v at) p))
          (λ (p : (j ≡ length (set views port v)) × (note_of v ≡ u)).
          subst (ViewFits o.0 o.1 o.2 o.3 j) p.1
          (at_rest o.0 o.1 o.2 o.3 j (note_of v).claims (all_noted o.0 o.1 port j v.claims mine.1)))
          (at_end (set views port v) (note_of v) u j e),
    )

pub joins : (port : ℕ) (v : View) (other : ℕ) (u : View) → v.fresh ≡ false → u.held ≡ None
    → Merges Kept port v other u (together v u) (resting [])
joins port v other u old empty items views h at apart there =
    let o = opened items views port v old h at in
    let mine = o.6 port v at in
    let both = together v u in
    let was : get_elem? views other ≡ some u = ⊎_elim (λ (x : (other ≡ port) × (both ≡ u)). absurd (apart x.0))
    (λ (x : (other ≢ port) × (get_elem? views other ≡ some u)). x.1) (at_set views port other both u there) in
    let theirs = o.6 other u was in
    let owner : ℕ → ℕ = λ a. if o.0 a == other then port else o.0 a in
    let of_other : (a : ℕ) → o.0 a ≡ other → owner a ≡ port =
    λ a e. ap (λ (b : Bool). if b then port else o.0 a) (eq-eqb (o.0 a) other e) in
    let of_else : (a : ℕ) → o.0 a ≢ other → owner a ≡ o.0 a =
    λ a e. ap (λ (b : Bool). if b then port else o.0 a) (ne_eqb (o.0 a) other e) in
    let of_port : (a : ℕ) → o.0 a ≡ port → owner a ≡ port = λ a e. of_else a (λ x. apart (sym x ∙ e)) ∙ e in
    let joined : ViewFits owner o.1 o.2 o.3 port both =
    (mine.0, all_both owner o.1 port v.claims u.claims (all_owned o.0 owner o.1 port port of_port v.claims mine.1) (all_owned o.0 owner o.1 other port of_other u.claims theirs.1), mine.2) in
    let held : o.2 ≡ true → HoldsSystem o.3 (set (set views port both) other (resting [])) =
    λ out.
    let h = o.5 out in
    let away = not_here views other u h.0 h.1 o.3 empty was h.2 h.3 in
    let there' : get_elem? (set (set views port both) other (resting [])) o.3 ≡ get_elem? (set views port both) o.3 =
    set_else (set views port both) other o.3 (resting []) away in
    dite (ℕ_discrete o.3 port)
    (λ e.
    let same : h.0 ≡ v = some-injective _ _ (sym h.2 ∙ ap (get_elem? views) e ∙ at) in
    (both, h.1, there' ∙ ap (get_elem? (set views port both)) e ∙ at_here views port v both at, ap (λ (y : View). y.held) (sym same) ∙ h.3))
    (λ ne. (h.0, h.1, there' ∙ set_else views port o.3 both ne ∙ h.2, h.3)) in
    inr (
      owner,
      o.1,
      o.2,
      o.3,
      o.4,
      held,
      views_set (ViewFits owner o.1 o.2 o.3) (set views port both) other (resting [])
          (at_rest owner o.1 o.2 o.3 other [] tt)
          (λ j y apart' e.
          ⊎_elim
          (λ (p : (j ≡ port) × (both ≡ y)).
          subst (λ (z : ℕ × View). ViewFits owner o.1 o.2 o.3 z.0 z.1) (λ i. (sym p.0 i, p.1 i)) joined)
          (λ (p : (j ≢ port) × (get_elem? views j ≡ some y)).
          let his = o.6 j y p.1 in
          (his.0, all_owned o.0 owner o.1 j j (λ a is_j. of_else a (λ x. apart' (sym is_j ∙ x)) ∙ is_j) y.claims his.1, his.2))
          (at_set views port j both y e)),
    )
