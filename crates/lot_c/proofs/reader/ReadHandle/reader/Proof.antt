-- `reader` sees the handle as a reader, in place.
use Rattle.lot_c.proofs.Common.{Body, Clauses, Env, Fun, GName, Goes-spent_ref, List, Logic, Memory, MutBor, MutRef, Part, Routine, SProp, Stays, Tables, Ura, Val, WpFn, WpFn-mono, addr, alloc_all, assign, at_ret, await, blocks, by, cell_at, copy, done, drop, emp, ends_at, ent, enter, entered, env, exec, first, fjoin, flft, follows, fpack, frame, free_all, fsep, fsplit, fsplit3, ftrue, full_share, get, group, handle_of, id⊢, join, keep, later, lends_Part, look_at, mem, move, mut_Tells, mut_ref_to, mut_vals, named, no, nothing, of_opd, opens, owns, part_at, pass_all, pick, place, plain, qed, raw, reader_of, refl, return, returns, rv_opd, says, sem, sep, seq, sets, sets_last, some, split, stay_dropped, stop, suffices, tables, through, triple_of, use1, vptr, walk_Meets, walk_of, walked, ℕ, !, [], ‵, ◌$◌, ◌∵◌, ◌∷◌, ◌⊛◌}
use contract.Running.{tables_of}
use denote.Memory.{part_of}
use Rattle.lot_c.specs.contracts.reader.ReadHandle as handle
use Rattle.lot_c.specs.contracts.reader.Reader as reader
use Rattle.lot_c.specs.contracts.reader.ReadHandle.reader as F
use Rattle.lot_c.specs.contracts.reader.ReadHandle.reader.Key.{name as #self}
use Rattle.lot_c.proofs.reader.ReadHandle.reader.Statement as stated
use Rattle.lot_c.proofs.reader.ReadHandle.reader.Code as code

abbrev stayed : Stays (F.ended).signature.params (F.ended).kept
stayed = (stay_dropped (mut_ref_to (0 ∷ []) tt (plain (λ _. handle.the_row))) no, tt)

abbrev rest : Body
rest = seq (assign (place 0 []) (rv_opd (copy (place 2 [])))) return

module _ {M : Type 1} {𝓤 : Ura M} (𝓛 : Logic 𝓤) (at_mem : Memory → SProp 𝓤) (run : Routine → Fun 𝓤)
    (𝓣 : Tables 𝓤 𝓛.H) where
  open 𝓛 use {H, A}

  abbrev clauses : Clauses 𝓤 F.ended
  clauses = F.clauses 𝓛 at_mem run

  back : (b o : ℕ) (w : reader.the_row.Denot) → ent 𝓤 (sep 𝓤 (sem 𝓛 ((mem reader.the_row).own_at w b o)) (sem 𝓛 ftrue))
      (sem 𝓛 ((mem handle.the_row).own_at (handle_of w) b o))
  unfolding part_of
  back b o w =
      qed 𝓛 (‵ (part_at reader.the_row full_share w b o) ∷ ‵ ftrue ∷ []) ∵ move ! (1 ∷ []) $ drop ! $ use1 𝓛
      (‵ (part_at handle.the_row full_share (handle_of w) b o)) (id⊢ 𝓤 _) $ done !

  abbrev at_end : (walk_of 𝓛 F.ended stayed clauses).Ghost → (walk_of 𝓛 F.ended stayed clauses).Ghost
  at_end y = ((y.0.0, y.0.1, y.0.2, y.0.3, (mut_vals y.0.3.0, tt)), y.1)

  exits : (y : (walk_of 𝓛 F.ended stayed clauses).Ghost) (γ' : GName)
      → ent 𝓤 (sep 𝓤 (sem 𝓛 ((MutRef (named 0) y.0.0.0 reader.the_row).own_val
      (record { ref_ptr = y.0.3.0.ref_ptr; ghost_name = γ'; now = reader_of y.0.3.0.now })
      (vptr y.0.3.0.ref_ptr.0 y.0.3.0.ref_ptr.1 ∷ [])))
      (sep 𝓤 (A.lft y.0.0.0 y.0.1.0) (sem 𝓛 (follows handle.the_row reader.the_row y.0.3.0.ghost_name γ' handle_of))))
      ((walk_of 𝓛 F.ended stayed clauses).post (at_end y) (vptr y.0.3.0.ref_ptr.0 y.0.3.0.ref_ptr.1))
  exits y γ' =
      let self = y.0.3.0 in let v = vptr self.ref_ptr.0 self.ref_ptr.1 in
      let r : MutBor reader.the_row.Denot =
      record { ref_ptr = self.ref_ptr; ghost_name = γ'; now = reader_of self.now } in
      qed 𝓛 (‵ ((MutRef (named 0) y.0.0.0 reader.the_row).own_val r (v ∷ [])) ∷ ‵ (flft y.0.0.0 y.0.1.0)
      ∷ ‵ (follows handle.the_row reader.the_row self.ghost_name γ' handle_of) ∷ []) ∵
      suffices ! _ (ends_at 𝓛 F.ended stayed clauses (at_end y) v r (tt, tt) (tt, tt)) $
      nothing ! $ nothing ! $ fjoin ! $ join ! $ nothing ! $ move ! (2 ∷ 0 ∷ []) $ join ! $ join ! $ frame ! $ says
      ! (refl, refl) $ done !

  walk : (y : (walk_of 𝓛 F.ended stayed clauses).Ghost) → ent 𝓤 ((walk_of 𝓛 F.ended stayed clauses).pre (at_end y))
      (WpFn 𝓤 H 𝓣.C 𝓣.Λ code.function (mut_vals y.0.3.0) ((walk_of 𝓛 F.ended stayed clauses).post (at_end y)))
  unfolding part_of
  walk y =
      let Post = (walk_of 𝓛 F.ended stayed clauses).post (at_end y) in
      let κ = y.0.0.0 in let q = y.0.1.0 in let self = y.0.3.0 in let d = self.now in let b = self.ref_ptr.0 in
      let o = self.ref_ptr.1 in let γ = self.ghost_name in
      let c = handle.the_row.coded.code d in
      qed 𝓛 (((‵ (flft κ q) ⊛ ‵ ftrue)
      ⊛ ‵ (owns (MutRef (named 0) κ handle.the_row ∷ []) (self, tt) (vptr b o ∷ [], tt))) ∷ raw (emp 𝓤) ∷ []) ∵
      move ! (1 ∷ []) $ drop ! $ enter ! 𝓣.C 𝓣.Λ code.function (vptr b o ∷ []) _ $ alloc_all ! (λ ls.
      pass_all ! refl ((tt, tt), tt) $ let En : Env 𝓤 H = env code.function.locals ls in
      split ! $ split ! $ move ! (2 ∷ []) $ fsplit ! $ fsplit3 ! $ drop ! $ move ! (0 ∷ 1 ∷ 3 ∷ []) $
      opens ! tt handle.the_row {h = d} b o (λ vs.
      first ! $ blocks ! $ sets ! (addr ! (through ! refl (stop !))) refl (tt, tt) $ sets ! (of_opd ! (get ! refl)) refl
      (tt, tt) $
      sets_last ! (addr ! (through ! refl (stop !))) refl (tt, tt) $ exec ! 𝓣.C 𝓣.Λ En rest
      (at_ret En Post) $ sets ! (of_opd ! (get ! refl)) refl (tt, tt) $
      fjoin ! $ fpack ! (List Val)
      (λ us. fsep (cell_at full_share handle.the_row.mir us b o) (handle.the_row.own_val d us)) vs $
      use1 𝓛 (‵ (part_at reader.the_row full_share (reader_of d) b o))
      (id⊢ 𝓤 _) $ nothing ! $ move ! (2 ∷ 3 ∷ 4 ∷ 1 ∷ 0 ∷ []) $ group ! 5 $
      use1 𝓛 (later (some (λ (γ' : GName). raw (Part 𝓛 handle.the_row reader.the_row handle_of (named 0) κ q b o b o γ
      (sem 𝓛 ftrue) (back b o) (reader_of d) γ'))))
      (lends_Part 𝓛 handle.the_row reader.the_row handle_of (named 0) κ q b o b o γ (sem 𝓛 ftrue) (back b o) c c
      (reader_of d)) $ await ! tt $ pick ! (λ γ'.
      returns ! (look_at ! 0 refl) $ free_all ! refl $ keep ! (0 ∷ []) $ by ! (exits y γ'))))

pub reader_spec : {M : Type 1} → stated.statement M
unfolding tables_of
reader_spec 𝓤 𝓛 𝓜 𝓡 wired =
    let 𝓣 : Tables 𝓤 𝓛.H = tables_of 𝓤 𝓛.H 𝓜 (tables 𝓤 𝓛.H 𝓜 𝓡 𝓡.env) in
    let held = clauses 𝓛 𝓜.mem 𝓡.returns 𝓣 in
    entered 𝓤 𝓛.H (triple_of 𝓛 F.signature (F.spec 𝓛 𝓜.mem 𝓡.returns)) 𝓣.C 𝓣.Λ #self code.function
    (code.unfolded 𝓤 𝓛.H 𝓜 𝓡 wired)
    (walk_Meets 𝓛 F.ended stayed (Goes-spent_ref 𝓛 1 (0 ∷ []) tt (plain (λ _. handle.the_row)), tt) held
    (WpFn 𝓤 𝓛.H 𝓣.C 𝓣.Λ code.function) (WpFn-mono 𝓤 𝓛.H 𝓛.laws 𝓣 code.function)
    (walked 𝓛 F.ended stayed held (WpFn 𝓤 𝓛.H 𝓣.C 𝓣.Λ code.function) (λ κs. (mut_vals, tt))
    (λ κs. (mut_Tells (named 0) κs.0 handle.the_row, tt))
    (λ κs qs bounds a g are. walk 𝓛 𝓜.mem 𝓡.returns 𝓣 ((κs, qs, bounds, a, (mut_vals a.0, tt)), g))))
