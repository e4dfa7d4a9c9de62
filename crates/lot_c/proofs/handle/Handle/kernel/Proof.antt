-- `kernel` lends the kernel in place, and the handle follows it.
use Rattle.lot_c.proofs.Lemmas.{Body, Clauses, D, E, Env, Fml, Fun, GName, Goes-spent_ref, List, Logic, Memory, MutBor, MutRef, P, Part, Routine, SProp, Some, Stays, Tables, Ura, Val, WpFn, WpFn-mono, addr, alloc_all, assign, at_ret, await, block_ptr, blocks, box_in, by, cell_at, copy, done, drop, ends_at, ent, enter, entered, env, exec, fact, false, first, fjoin, fld, flft, follows, fpack, frame, free_all, fsep, fsplit, fsplit3, ftrue, full_share, get, ghosts, group, handle_out, heard, id⊢, is-filled, is_none, join, keep, later, lends_Part, load, lone, look_at, look_in, mem, move, mut_Tells, mut_ref_to, mut_vals, named, no, nothing, of_opd, opens, owns, part_at, pass_all, pick, place, plain, qed, raw, refl, return, returns, rewrite, rv_opd, says, sem, sep, seq, sets, sets_last, some, split, stay_dropped, stop, sub, suffices, tables, through, triple_of, use1, vptr, walk_Meets, walk_of, walked, whole, with_kernel, word, ℕ, !, [], ‵, ◌$◌, ◌∵◌, ◌∷◌, ◌≡◌, ◌⊛◌}
use mir.Raw.{raw as bare}
use contract.Running.{tables_of}
use denote.Memory.{part_of}
use Rattle.lot_kernel.specs.contracts.kernel.Kernel as kernel
use Rattle.lot_c.specs.contracts.handle.Handle as handle
use Rattle.lot_c.specs.contracts.handle.Handle.kernel as F
use Rattle.lot_c.specs.contracts.handle.Handle.kernel.Key.{name as #self}
use Rattle.lot_c.proofs.handle.Handle.kernel.Statement as stated
use Rattle.lot_c.proofs.handle.Handle.kernel.Code as code

abbrev stayed : Stays (F.ended).signature.params (F.ended).kept
stayed = (stay_dropped (mut_ref_to (0 ∷ []) tt (plain (λ _. handle.the_row))) no, tt)

abbrev rest : Body
rest = seq (assign (place 0 []) (rv_opd (copy (place 2 [])))) return

module _ {M : Type 1} {𝓤 : Ura M} (𝓛 : Logic 𝓤) (at_mem : Memory → SProp 𝓤) (run : Routine → Fun 𝓤)
    (𝓣 : Tables 𝓤 𝓛.H) where
  open 𝓛 use {H, A}

  abbrev clauses : Clauses 𝓤 F.ended
  clauses = F.clauses 𝓛 at_mem run

  module _ (d : handle.the_row.Denot) (b o b' o' : ℕ) (hv : Val) where
    -- all of the handle but its kernel
    abbrev Rest : Fml
    Rest = fsep (fsep (ghosts.dealloc_token d.alloc (bare (lone kernel.the_row.mir)) (block_ptr b' o'))
        ((P E).own_val d.alloc (hv ∷ []))) (cell_at full_share handle.the_row.mir (word E hv b' o' ∷ []) b o)

    back : d.at ≡ block_ptr b' o' → (w : kernel.the_row.Denot)
        → ent 𝓤 (sep 𝓤 (sem 𝓛 ((mem kernel.the_row).own_at w b' o')) (sem 𝓛 Rest))
        (sem 𝓛 ((mem handle.the_row).own_at (with_kernel d w) b o))
    unfolding part_of
    back at w =
        let v : D E = record { ptr = d.at; alloc = d.alloc; value = w } in
        qed 𝓛 (‵ (part_at kernel.the_row full_share w b' o') ∷ ‵ Rest ∷ []) ∵ move ! (1 ∷ []) $ fsplit ! $ fsplit
        ! $ move ! (3 ∷ []) $
        box_in E ! v b' o' w at refl $ use1 𝓛 (‵ (handle.the_row.own_val (with_kernel d w) (word E hv b' o' ∷ [])))
        (id⊢ 𝓤 _) $ move ! (1 ∷ 0 ∷ []) $ fjoin ! $
        fpack ! (List Val) (λ us. fsep (cell_at full_share handle.the_row.mir us b o)
        (handle.the_row.own_val (with_kernel d w) us)) (word E hv b' o' ∷ []) $ done !

  abbrev at_end : (walk_of 𝓛 F.ended stayed clauses).Ghost → (walk_of 𝓛 F.ended stayed clauses).Ghost
  at_end y = ((y.0.0, y.0.1, y.0.2, y.0.3, (mut_vals y.0.3.0, tt)), y.1)

  exits : (y : (walk_of 𝓛 F.ended stayed clauses).Ghost) (b' o' : ℕ) (γ' : GName) (x : kernel.the_row.Denot)
      → y.0.3.0.now.kernel ≡ Some x
      → ent 𝓤 (sep 𝓤 (sem 𝓛 ((MutRef (named 0) y.0.0.0 kernel.the_row).own_val
      (record { ref_ptr = (b', o'); ghost_name = γ'; now = x }) (vptr b' o' ∷ [])))
      (sep 𝓤 (A.lft y.0.0.0 y.0.1.0)
      (sem 𝓛 (follows handle.the_row kernel.the_row y.0.3.0.ghost_name γ' (with_kernel y.0.3.0.now)))))
      ((walk_of 𝓛 F.ended stayed clauses).post (at_end y) (vptr b' o'))
  exits y b' o' γ' x filled =
      let r : MutBor kernel.the_row.Denot = record { ref_ptr = (b', o'); ghost_name = γ'; now = x } in
      qed 𝓛 (‵ ((MutRef (named 0) y.0.0.0 kernel.the_row).own_val r (vptr b' o' ∷ [])) ∷ ‵ (flft y.0.0.0 y.0.1.0)
      ∷ ‵ (follows handle.the_row kernel.the_row y.0.3.0.ghost_name γ' (with_kernel y.0.3.0.now)) ∷ []) ∵
      suffices ! _ (ends_at 𝓛 F.ended stayed clauses (at_end y) (vptr b' o') r (tt, tt) (tt, tt)) $
      nothing ! $ nothing ! $ fjoin ! $ join ! $ nothing ! $ move ! (2 ∷ 0 ∷ []) $ join ! $ join ! $ frame ! $ says
      ! filled $ done !

  walk : (y : (walk_of 𝓛 F.ended stayed clauses).Ghost) → ent 𝓤 ((walk_of 𝓛 F.ended stayed clauses).pre (at_end y))
      (WpFn 𝓤 H 𝓣.C 𝓣.Λ code.function (mut_vals y.0.3.0) ((walk_of 𝓛 F.ended stayed clauses).post (at_end y)))
  walk y =
      let Post = (walk_of 𝓛 F.ended stayed clauses).post (at_end y) in
      let κ = y.0.0.0 in let q = y.0.1.0 in let self = y.0.3.0 in let d = self.now in let b = self.ref_ptr.0 in
      let o = self.ref_ptr.1 in let γ = self.ghost_name in
      let c = handle.the_row.coded.code d in
      qed 𝓛 (((‵ (flft κ q) ⊛ ‵ ftrue) ⊛ ‵ (owns (MutRef (named 0) κ handle.the_row ∷ []) (self, tt)
      (vptr b o ∷ [], tt))) ∷ raw (fact 𝓤 (is_none d.kernel ≡ false)) ∷ []) ∵
      move ! (1 ∷ []) $ heard ! (is_none d.kernel ≡ false) (λ filled.
      enter ! 𝓣.C 𝓣.Λ code.function (vptr b o ∷ []) _ $ alloc_all ! (λ ls.
      pass_all ! refl ((tt, tt), tt) $ let En : Env 𝓤 H = env code.function.locals ls in
      split ! $ split ! $ move ! (2 ∷ []) $ fsplit ! $ fsplit3 ! $ drop ! $ move ! (0 ∷ 1 ∷ 3 ∷ []) $
      opens ! tt handle.the_row {h = d} b o (λ vs. move ! (1 ∷ []) $ handle_out ! d.at d.alloc d.kernel vs
      (λ hv none null ws fa. absurd (is-filled d.kernel filled none))
      (λ b' o' hv x there at ws fa te.
      rewrite ! 2 (λ (us : List Val). ‵ (cell_at full_share handle.the_row.mir us b o)) ws refl $ fsplit ! $
      -- [the kernel; the token; the allocator; the word; the open borrow; obs; auth; true; ..]
      first ! $ blocks ! $ sets ! (of_opd ! (load ! (through ! refl (fld ! refl (stop !)))
      (look_in ! 3 (sub ! 0 refl (whole !))))) refl (tt, tt) $ sets ! (of_opd ! (get ! refl)) refl (tt, tt) $
      sets_last ! (addr ! (through ! refl (stop !))) refl (tt, tt) $ exec ! 𝓣.C 𝓣.Λ En rest
      (at_ret En Post) $ sets ! (of_opd ! (get ! refl)) refl (tt, tt) $
      move ! (1 ∷ 2 ∷ []) $ fjoin ! $ move ! (0 ∷ 2 ∷ []) $ fjoin ! $ move ! (2 ∷ 3 ∷ 4 ∷ 1 ∷ 0 ∷ []) $ group ! 5 $
      use1 𝓛 (later (some (λ (γ' : GName). raw (Part 𝓛 handle.the_row kernel.the_row (with_kernel d)
      (named 0) κ q b o b' o' γ (sem 𝓛 (Rest d b o b' o' hv)) (back d b o b' o' hv at) x γ'))))
      (lends_Part 𝓛 handle.the_row kernel.the_row (with_kernel d) (named 0) κ q b o b' o' γ
      (sem 𝓛 (Rest d b o b' o' hv)) (back d b o b' o' hv at) c c x) $ await ! tt $ pick ! (λ γ'.
      returns ! (look_at ! 0 refl) $ free_all ! refl $ keep ! (0 ∷ []) $ by ! (exits y b' o' γ' x there))))))

pub kernel_spec : {M : Type 1} → stated.statement M
unfolding tables_of
kernel_spec 𝓤 𝓛 𝓜 𝓡 wired =
    let 𝓣 : Tables 𝓤 𝓛.H = tables_of 𝓤 𝓛.H 𝓜 (tables 𝓤 𝓛.H 𝓜 𝓡 𝓡.env) in
    let held = clauses 𝓛 𝓜.mem 𝓡.returns 𝓣 in
    entered 𝓤 𝓛.H (triple_of 𝓛 F.signature (F.spec 𝓛 𝓜.mem 𝓡.returns)) 𝓣.C 𝓣.Λ #self code.function
    (code.unfolded 𝓤 𝓛.H 𝓜 𝓡 wired)
    (walk_Meets 𝓛 F.ended stayed (Goes-spent_ref 𝓛 1 (0 ∷ []) tt (plain (λ _. handle.the_row)), tt) held
    (WpFn 𝓤 𝓛.H 𝓣.C 𝓣.Λ code.function) (WpFn-mono 𝓤 𝓛.H 𝓛.laws 𝓣 code.function)
    (walked 𝓛 F.ended stayed held (WpFn 𝓤 𝓛.H 𝓣.C 𝓣.Λ code.function) (λ κs. (mut_vals, tt))
    (λ κs. (mut_Tells (named 0) κs.0 handle.the_row, tt))
    (λ κs qs bounds a g are. walk 𝓛 𝓜.mem 𝓡.returns 𝓣 ((κs, qs, bounds, a, (mut_vals a.0, tt)), g))))
