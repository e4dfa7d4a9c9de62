-- `into_parts` compares the pointer with null: the handle's possession is there, or nothing is.
use Rattle.lot_c.proofs.Lemmas.{D, E, FromParts-row, Fun, Goes-dropped, Good, Item, List, Logic, Memory, None, P, Routine, SProp, Some, Some-of, Stays, Tables, Ura, Val, WpFn, WpFn-mono, after, agg, alloc_all, and_then, and_tt, at_ret, bin, block_ptr, box_in, box_owns, box_typed, branches, by, done, drop, emp, ends_at, ent, enter, entered, env, exec, first, fjoin, fld, free_all, fsep, fsplit, ftrue, get, get_in, ghosts, handle_out, held, id⊢, join, layout, lit, lit<, live, look_at, move, no_more, none_of, nothing, null_typed, null_word, of_opd, pass_all, qed, raw, refl, returns, says, sets, sets_last, split, stay_dropped, stop, sub, subst, suffices, sym, tables, tests_null, triple_of, type_at, use0, use1, vcons, vnil, walk_Meets, walk_of, whole, word, yes, !, [], ‵, ◌$◌, ◌++◌, ◌∵◌, ◌∷◌, ◌⊛◌}
use contract.Running.{tables_of}
use Rattle.lot_kernel.specs.contracts.kernel.Kernel as kernel
use Rattle.lot_c.proofs.Handles.{FromHandle as From}
use Rattle.lot_c.specs.contracts.handle.Handle as handle
use Rattle.lot_c.specs.contracts.handle.Handle.into_parts as F
use Rattle.lot_c.specs.contracts.handle.Handle.into_parts.Key.{name as #self}
use Rattle.lot_c.proofs.handle.Handle.into_parts.Statement as stated
use Rattle.lot_c.proofs.handle.Handle.into_parts.Code as code

abbrev stayed : Stays (F.ended).signature.params (F.ended).kept
stayed = (stay_dropped From yes, tt)

module _ {M : Type 1} {𝓤 : Ura M} (𝓛 : Logic 𝓤) (at_mem : Memory → SProp 𝓤) (run : Routine → Fun 𝓤)
    (𝓣 : Tables 𝓤 𝓛.H) where
  open 𝓛 use {H}

  walk : (z : (walk_of 𝓛 F.ended stayed (F.clauses 𝓛 at_mem run)).Ghost)
      → ent 𝓤 ((walk_of 𝓛 F.ended stayed (F.clauses 𝓛 at_mem run)).pre z)
      (WpFn 𝓤 H 𝓣.C 𝓣.Λ code.function (z.0.4.0 ++ []) ((walk_of 𝓛 F.ended stayed (F.clauses 𝓛 at_mem run)).post z))
  walk z =
      let Post = (walk_of 𝓛 F.ended stayed (F.clauses 𝓛 at_mem run)).post z in
      let Out = type_at (F.signature).result tt in
      qed 𝓛 ((‵ ftrue ⊛ ‵ (fsep (handle.the_row.own_val (held z.0.3.0.at z.0.3.0.alloc z.0.3.0.kernel) z.0.4.0) ftrue))
      ∷ raw (emp 𝓤) ∷ []) ∵ split ! $ drop ! $ fsplit ! $
      handle_out ! z.0.3.0.at z.0.3.0.alloc z.0.3.0.kernel z.0.4.0
      (λ hv none null ws fa.
      let w : Val = null_word hv in
      let Γ : List (Item 𝓤) = ‵ ((P E).own_val z.0.3.0.alloc (hv ∷ [])) ∷ ‵ ftrue ∷ raw (emp 𝓤) ∷ [] in
      by ! (subst (λ (us : List Val). ent 𝓤 (types.Kit.⋆ 𝓛 Γ) (WpFn 𝓤 H 𝓣.C 𝓣.Λ code.function (us ++ []) Post)) (sym ws)
      (qed 𝓛 Γ ∵ enter ! 𝓣.C 𝓣.Λ code.function (w ∷ []) _ $ alloc_all ! (λ ls. let Ev = env code.function.locals ls in
      pass_all ! refl (null_typed hv fa, tt) $
      sets ! (of_opd ! (get_in ! (fld ! refl (stop !)) (sub ! 0 refl (whole !)))) refl (tt, record { fits = lit< tt })
      $ sets ! (of_opd ! (get_in ! (fld ! refl (stop !)) (sub ! 1 refl (whole !)))) refl fa $
      sets ! (bin ! (get ! refl) (lit ! tt) tt) refl (tt, tt) $ first ! $ branches ! (get ! refl)
      (λ _. sets_last ! (agg ! (and_then ! (lit ! tt) (no_more !))) refl
      (tt, (record { fits = lit< tt }, tt)) $ exec ! 𝓣.C 𝓣.Λ Ev (after 4 code.function.body) (at_ret Ev Post) $
      sets ! (of_opd ! (get ! refl)) refl (tt, (record { fits = lit< tt }, tt)) $ returns ! (look_at ! 0 refl)
      $ free_all ! refl $ move ! (1 ∷ 2 ∷ []) $ drop ! $ drop ! $ drop ! $
      use0 𝓛 (‵ (Out.own_val None (live 0 vnil ∷ []))) (none_of 𝓛 FromParts-row) $
      suffices ! _
      (ends_at 𝓛 F.ended stayed (F.clauses 𝓛 at_mem run) z (live 0 vnil) None (tt, tt) (tt, tt)) $ says ! none $
      nothing ! $ nothing ! $ fjoin ! $ join ! $ nothing ! $ join ! $ done !)
      (λ wrong. absurd wrong)))))
      (λ b o hv x some at ws fa te.
      let w : Val = word E hv b o in
      let d : FromParts-row.Denot = record { at = block_ptr b o; alloc = z.0.3.0.alloc; value = x } in
      let v : D E = record { ptr = block_ptr b o; alloc = z.0.3.0.alloc; value = x } in
      let v₁ : Val = live 1 (vcons w vnil) in
      let typed = box_typed E hv b o fa in
      let good : Good (layout Out) v₁ = (and_tt _ typed.0, (record { fits = lit< tt }, (typed.1, tt))) in
      let Γ : List (Item 𝓤) = ‵ (box_owns (ghosts.dealloc_token z.0.3.0.alloc) kernel.the_row (block_ptr b o) x)
      ∷ ‵ ((P E).own_val z.0.3.0.alloc (hv ∷ [])) ∷ ‵ ftrue ∷ raw (emp 𝓤) ∷ [] in
      by ! (subst (λ (us : List Val). ent 𝓤 (types.Kit.⋆ 𝓛 Γ) (WpFn 𝓤 H 𝓣.C 𝓣.Λ code.function (us ++ []) Post)) (sym ws)
      (qed 𝓛 Γ ∵ enter ! 𝓣.C 𝓣.Λ code.function (w ∷ []) _ $ alloc_all ! (λ ls. let Ev = env code.function.locals ls in
      pass_all ! refl (typed, tt) $
      sets ! (of_opd ! (get_in ! (fld ! refl (stop !)) (sub ! 0 refl (whole !)))) refl
      (tt, tt) $ sets ! (of_opd ! (get_in ! (fld ! refl (stop !)) (sub ! 1 refl (whole !)))) refl fa $
      sets ! (bin ! (get ! refl) (lit ! tt) (tests_null (block_ptr b o) te)) refl
      (tt, tt) $ first ! $ branches ! (get ! refl)
      (λ wrong. absurd wrong)
      (λ _. sets ! (of_opd ! (get ! refl)) refl
      (tt, tt) $ sets ! (agg ! (and_then ! (get ! refl) (and_then ! (get ! refl) (no_more !)))) refl typed $
      sets_last ! (agg ! (and_then ! (lit ! tt) (and_then ! (get ! refl) (no_more !)))) refl good $ exec ! 𝓣.C 𝓣.Λ Ev
      (after 4 code.function.body) (at_ret Ev Post) $
      sets ! (of_opd ! (get ! refl)) refl good $ returns ! (look_at ! 0 refl) $ free_all ! refl $ move ! (2 ∷ 3 ∷ [])
      $ drop ! $ drop ! $
      fsplit ! $ box_in E ! v b o x refl refl $ use1 𝓛 (‵ (FromParts-row.own_val d (w ∷ []))) (id⊢ 𝓤 _) $ use1 𝓛
      (‵ (Out.own_val (Some d) (v₁ ∷ []))) (Some-of 𝓛 FromParts-row d w) $
      suffices ! _ (ends_at 𝓛 F.ended stayed (F.clauses 𝓛 at_mem run) z v₁ (Some d) (tt, tt) (tt, tt)) $ says ! some $
      nothing ! $ nothing ! $ fjoin ! $ join ! $ nothing ! $ join ! $ done !)))))

pub into_parts_spec : {M : Type 1} → stated.statement M
unfolding tables_of
into_parts_spec 𝓤 𝓛 𝓜 𝓡 wired =
    let 𝓣 : Tables 𝓤 𝓛.H = tables_of 𝓤 𝓛.H 𝓜 (tables 𝓤 𝓛.H 𝓜 𝓡 𝓡.env) in
    entered 𝓤 𝓛.H (triple_of 𝓛 F.signature (F.spec 𝓛 𝓜.mem 𝓡.returns)) 𝓣.C 𝓣.Λ #self code.function
    (code.unfolded 𝓤 𝓛.H 𝓜 𝓡 wired)
    (walk_Meets 𝓛 F.ended stayed (Goes-dropped 𝓛 0 From yes (λ κs x f. refl), tt) (F.clauses 𝓛 𝓜.mem 𝓡.returns)
    (WpFn 𝓤 𝓛.H 𝓣.C 𝓣.Λ code.function) (WpFn-mono 𝓤 𝓛.H 𝓛.laws 𝓣 code.function)
    (walk 𝓛 𝓜.mem 𝓡.returns 𝓣))
