-- `is_empty` compares the pointer with null in place, and leaves the handle unchanged.
use Rattle.lot_c.proofs.Lemmas.{Bool, Clauses, D, E, Fun, Goes-ref, List, Logic, Memory, MutRef, Routine, SProp, Some, Stays, Tables, Ura, Val, WpFn, WpFn-mono, alloc_all, bin, block_ptr, box_in, by, cell_at, closes, done, drop, emp, ends_at, ent, enter, entered, false, fbor, feq_i, fjoin, fjoin3, fld, flft, fobs, frame, free_all, fsplit, fsplit3, ftrue, full_share, get, handle_in, handle_out, held, id⊢, is_none, join, keep, lit, lit<, load, look_at, look_in, mem, move, mut_Tells, mut_vals, named, nothing, null_word, of_opd, opens, owns, pass_all, plain, qed, raw, refl, returns, rewrite, says, sep, sets, split, stay_ref, stop, sub, suffices, sym, tables, tests_null, through, triple_of, true, use1, vbool, vptr, walk_Meets, walk_of, walked, whole, word, !, [], ‵, ◌$◌, ◌∵◌, ◌∷◌, ◌≡◌, ◌⊛◌}
use types.SemTy.{Body as Borrowed}
use contract.Running.{tables_of}
use Rattle.lot_c.specs.contracts.handle.Handle as handle
use Rattle.lot_c.specs.contracts.handle.Handle.is_empty as F
use Rattle.lot_c.specs.contracts.handle.Handle.is_empty.Key.{name as #self}
use Rattle.lot_c.proofs.handle.Handle.is_empty.Statement as stated
use Rattle.lot_c.proofs.handle.Handle.is_empty.Code as code

abbrev stayed : Stays (F.ended).signature.params (F.ended).kept
stayed = (stay_ref (0 ∷ []) tt (plain (λ _. handle.the_row)), tt)

module _ {M : Type 1} {𝓤 : Ura M} (𝓛 : Logic 𝓤) (at_mem : Memory → SProp 𝓤) (run : Routine → Fun 𝓤)
    (𝓣 : Tables 𝓤 𝓛.H) where
  open 𝓛 use {H, A}

  abbrev clauses : Clauses 𝓤 F.ended
  clauses = F.clauses 𝓛 at_mem run

  abbrev at_end : (walk_of 𝓛 F.ended stayed clauses).Ghost → (walk_of 𝓛 F.ended stayed clauses).Ghost
  at_end y = ((y.0.0, y.0.1, y.0.2, y.0.3, (mut_vals y.0.3.0, tt)), y.1)

  exits : (y : (walk_of 𝓛 F.ended stayed clauses).Ghost) (t : Bool) → t ≡ is_none y.0.3.0.now.kernel
      → ent 𝓤 (sep 𝓤 (A.obs y.0.3.0.ghost_name (handle.the_row.coded.code y.0.3.0.now)) (sep 𝓤 (A.bor y.0.0.0
      (Borrowed (mem handle.the_row) y.0.3.0.ref_ptr.0 y.0.3.0.ref_ptr.1 y.0.3.0.ghost_name)) (A.lft y.0.0.0 y.0.1.0)))
      ((walk_of 𝓛 F.ended stayed clauses).post (at_end y) (vbool t))
  exits y t is =
      let self = y.0.3.0 in let b = self.ref_ptr.0 in let o = self.ref_ptr.1 in let v = vptr b o ∷ [] in
      qed 𝓛 (‵ (fobs self.ghost_name (handle.the_row.coded.code self.now))
      ∷ ‵ (fbor y.0.0.0 (Borrowed (mem handle.the_row) b o self.ghost_name)) ∷ ‵ (flft y.0.0.0 y.0.1.0) ∷ []) ∵
      suffices ! _
      (ends_at 𝓛 F.ended stayed clauses (at_end y) (vbool t) t (self.now, tt) (tt, tt)) $ says ! (is, refl) $
      nothing ! $ move ! (3 ∷ 0 ∷ []) $ join ! $ frame ! $ feq_i ! (List Val) (vptr b o ∷ [])
      (vptr b o ∷ []) refl $ fjoin3 ! $ nothing ! $ move ! (1 ∷ 0 ∷ []) $ fjoin ! $
      feq_i ! (List Val) (vbool t ∷ []) (vbool t ∷ []) refl $ move ! (1 ∷ 0 ∷ []) $ done !

  walk : (y : (walk_of 𝓛 F.ended stayed clauses).Ghost) → ent 𝓤 ((walk_of 𝓛 F.ended stayed clauses).pre (at_end y))
      (WpFn 𝓤 H 𝓣.C 𝓣.Λ code.function (mut_vals y.0.3.0) ((walk_of 𝓛 F.ended stayed clauses).post (at_end y)))
  walk y =
      let κ = y.0.0.0 in let q = y.0.1.0 in let self = y.0.3.0 in let d = self.now in let b = self.ref_ptr.0 in
      let o = self.ref_ptr.1 in
      qed 𝓛 (((‵ (flft κ q) ⊛ ‵ ftrue)
      ⊛ ‵ (owns (MutRef (named 0) κ handle.the_row ∷ []) (self, tt) (vptr b o ∷ [], tt))) ∷ raw (emp 𝓤) ∷ []) ∵
      move ! (1 ∷ []) $ drop ! $ enter ! 𝓣.C 𝓣.Λ code.function
      (vptr b o ∷ []) _ $ alloc_all ! (λ ls. pass_all ! refl ((tt, tt), tt) $
      split ! $ split ! $ move ! (2 ∷ []) $ fsplit ! $ fsplit3 ! $ drop ! $ move ! (0 ∷ 1 ∷ 3 ∷ []) $
      opens ! tt handle.the_row {h = d} b o (λ vs. move ! (1 ∷ []) $ handle_out ! d.at d.alloc d.kernel vs
      (λ hv none null ws fa. rewrite ! 1 (λ (us : List Val). ‵ (cell_at full_share handle.the_row.mir us b o)) ws refl $
      -- [the allocator; the word; the open borrow; obs; auth; true; ..]
      sets ! (of_opd ! (load ! (through ! refl (fld ! refl (stop !))) (look_in ! 1 (sub ! 0 refl (whole !))))) refl
      (tt, record { fits = lit< tt }) $ sets ! (bin ! (get ! refl) (lit ! tt) tt) refl (tt, tt) $
      handle_in ! d.alloc hv $ rewrite ! 0 (λ (h : handle.the_row.Denot).
      ‵ (handle.the_row.own_val h (null_word hv ∷ []))) (λ i. held (sym null i) d.alloc (sym none i)) refl $
      move ! (1 ∷ 0 ∷ []) $ closes ! tt handle.the_row d (null_word hv ∷ []) b o $
      returns ! (look_at ! 0 refl) $ free_all ! refl $ keep ! (0 ∷ 1 ∷ 2 ∷ []) $ by
      ! (exits y true (λ i. is_none (sym none i))))
      (λ b' o' hv x there at ws fa te.
      rewrite ! 2 (λ (us : List Val). ‵ (cell_at full_share handle.the_row.mir us b o)) ws refl $
      let v : D E = record { ptr = block_ptr b' o'; alloc = d.alloc; value = x } in
      -- [the box; the allocator; the word; the open borrow; obs; auth; true; ..]
      sets ! (of_opd ! (load ! (through ! refl (fld ! refl (stop !))) (look_in ! 2 (sub ! 0 refl (whole !))))) refl
      (tt, tt) $ sets ! (bin ! (get ! refl) (lit ! tt) (tests_null (block_ptr b' o') te)) refl (tt, tt) $
      fsplit ! $ box_in E ! v b' o' x refl refl $ use1 𝓛
      (‵ (handle.the_row.own_val (held (block_ptr b' o') d.alloc (Some x)) (word E hv b' o' ∷ []))) (id⊢ 𝓤 _) $
      rewrite ! 0 (λ (h : handle.the_row.Denot). ‵ (handle.the_row.own_val h (word E hv b' o' ∷ [])))
      (λ i. held (sym at i) d.alloc (sym there i)) refl $
      move ! (1 ∷ 0 ∷ []) $ closes ! tt handle.the_row d (word E hv b' o' ∷ []) b o $
      returns ! (look_at ! 0 refl) $ free_all ! refl $ keep ! (0 ∷ 1 ∷ 2 ∷ []) $ by
      ! (exits y false (λ i. is_none (sym there i))))))

pub is_empty_spec : {M : Type 1} → stated.statement M
unfolding tables_of
is_empty_spec 𝓤 𝓛 𝓜 𝓡 wired =
    let 𝓣 : Tables 𝓤 𝓛.H = tables_of 𝓤 𝓛.H 𝓜 (tables 𝓤 𝓛.H 𝓜 𝓡 𝓡.env) in
    let held = clauses 𝓛 𝓜.mem 𝓡.returns 𝓣 in
    entered 𝓤 𝓛.H (triple_of 𝓛 F.signature (F.spec 𝓛 𝓜.mem 𝓡.returns)) 𝓣.C 𝓣.Λ #self code.function
    (code.unfolded 𝓤 𝓛.H 𝓜 𝓡 wired)
    (walk_Meets 𝓛 F.ended stayed (Goes-ref 𝓛 1 0 tt (plain (λ _. handle.the_row)), tt) held
    (WpFn 𝓤 𝓛.H 𝓣.C 𝓣.Λ code.function) (WpFn-mono 𝓤 𝓛.H 𝓛.laws 𝓣 code.function)
    (walked 𝓛 F.ended stayed held (WpFn 𝓤 𝓛.H 𝓣.C 𝓣.Λ code.function) (λ κs. (mut_vals, tt))
    (λ κs. (mut_Tells (named 0) κs.0 handle.the_row, tt))
    (λ κs qs bounds a g are. walk 𝓛 𝓜.mem 𝓡.returns 𝓣 ((κs, qs, bounds, a, (mut_vals a.0, tt)), g))))
