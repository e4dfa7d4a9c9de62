-- `empty` makes a null pointer, which owns nothing.
use Rattle.lot_c.proofs.Lemmas.{E, Fun, Goes-dropped, Item, List, Logic, Memory, None, P, Routine, SProp, Slot, Stays, Tables, Ura, Val, WpFn, WpFn-mono, agg, alloc_all, and_then, by, done, drop, emp, ends_at, ent, enter, entered, fjoin, free_all, fsep, fsplit, ftrue, get, handle_in, handle_tells, held, join, lit, look_at, move, no_more, nothing, null_ptr, null_typed, null_word, pass_all, plain, qed, raw, refl, returns, says, sets, split, stay_dropped, subst, suffices, sym, tables, triple_of, type_at, use1, walk_Meets, walk_of, yes, !, [], ‵, ◌$◌, ◌++◌, ◌∵◌, ◌∷◌, ◌⊛◌}
use contract.Running.{tables_of}
use Rattle.std.specs.contracts.alloc.Global as Heap
use Rattle.lot_c.specs.contracts.handle.Handle.empty as F
use Rattle.lot_c.specs.contracts.handle.Handle.empty.Key.{name as #self}
use Rattle.lot_c.proofs.handle.Handle.empty.Statement as stated
use Rattle.lot_c.proofs.handle.Handle.empty.Code as code

abbrev From : Slot 0
From = plain (λ _. Heap.the_row)

abbrev stayed : Stays (F.ended).signature.params (F.ended).kept
stayed = (stay_dropped From yes, tt)

module _ {M : Type 1} {𝓤 : Ura M} (𝓛 : Logic 𝓤) (at_mem : Memory → SProp 𝓤) (run : Routine → Fun 𝓤)
    (𝓣 : Tables 𝓤 𝓛.H) where
  open 𝓛 use {H}

  walk : (z : (walk_of 𝓛 F.ended stayed (F.clauses 𝓛 at_mem run)).Ghost)
      → ent 𝓤 ((walk_of 𝓛 F.ended stayed (F.clauses 𝓛 at_mem run)).pre z)
      (WpFn 𝓤 H 𝓣.C 𝓣.Λ code.function (z.0.4.0 ++ []) ((walk_of 𝓛 F.ended stayed (F.clauses 𝓛 at_mem run)).post z))
  walk z =
      let Post = (walk_of 𝓛 F.ended stayed (F.clauses 𝓛 at_mem run)).post z in
      let alloc = z.0.3.0 in
      let To = type_at (F.signature).result tt in
      let made : To.Denot = held null_ptr alloc None in
      qed 𝓛
      ((‵ ftrue ⊛ ‵ (fsep ((P E).own_val alloc z.0.4.0) ftrue)) ∷ raw (emp 𝓤) ∷ []) ∵ split ! $ drop ! $ fsplit ! $
      handle_tells E.al ! alloc z.0.4.0 (λ hv ws fa.
      let w : Val = null_word hv in
      let Γ : List (Item 𝓤) = ‵ ((P E).own_val alloc (hv ∷ [])) ∷ ‵ ftrue ∷ raw (emp 𝓤) ∷ [] in
      by ! (subst (λ (us : List Val). ent 𝓤 (types.Kit.⋆ 𝓛 Γ) (WpFn 𝓤 H 𝓣.C 𝓣.Λ code.function (us ++ []) Post)) (sym ws)
      (qed 𝓛 Γ ∵ enter ! 𝓣.C 𝓣.Λ code.function (hv ∷ []) _ $ alloc_all ! (λ ls. pass_all ! refl (fa, tt) $
      sets ! (agg ! (and_then ! (lit ! tt) (and_then ! (get ! refl) (no_more !)))) refl (null_typed hv fa) $ returns
      ! (look_at ! 0 refl) $ free_all ! refl $ handle_in ! alloc hv $ move ! (1 ∷ 2 ∷ []) $ drop ! $ drop ! $
      suffices ! _ (ends_at 𝓛 F.ended stayed (F.clauses 𝓛 at_mem run) z w made (tt, tt) (tt, tt)) $ says ! refl $
      nothing ! $ nothing ! $ fjoin ! $ join ! $ nothing ! $ join ! $ done !))))

pub empty_spec : {M : Type 1} → stated.statement M
unfolding tables_of
empty_spec 𝓤 𝓛 𝓜 𝓡 wired =
    let 𝓣 : Tables 𝓤 𝓛.H = tables_of 𝓤 𝓛.H 𝓜 (tables 𝓤 𝓛.H 𝓜 𝓡 𝓡.env) in
    entered 𝓤 𝓛.H (triple_of 𝓛 F.signature (F.spec 𝓛 𝓜.mem 𝓡.returns)) 𝓣.C 𝓣.Λ #self code.function
    (code.unfolded 𝓤 𝓛.H 𝓜 𝓡 wired)
    (walk_Meets 𝓛 F.ended stayed (Goes-dropped 𝓛 0 From yes (λ κs x f. refl), tt) (F.clauses 𝓛 𝓜.mem 𝓡.returns)
    (WpFn 𝓤 𝓛.H 𝓣.C 𝓣.Λ code.function) (WpFn-mono 𝓤 𝓛.H 𝓛.laws 𝓣 code.function)
    (walk 𝓛 𝓜.mem 𝓡.returns 𝓣))
