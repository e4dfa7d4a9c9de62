-- `get` reads the pointer through the reference: the shared kernel is there, or nothing is.
use Rattle.lot_c.proofs.Common.{Body, Bor, Clauses, Env, Fun, Goes-dropped, Good, InBlock, KernelValue, Lft, List, Logic, Memory, None, Ptr, RattleType, RawPtr, RawPtr-laws, RefOf, Routine, SProp, ShrRef, Some, Some-of, Stays, Struct, Tables, Ura, Val, Wp, WpFn, WpFn-mono, addr, after, after_seq, agg, aggregate, alloc_all, and_then, any_q, assign, at_ret, at_return, bin, block_ptr, blocks, branches, by, cell_at, coded_ptr, copy, done, drop, emp, ends_at, ent, enter, entered, env, exec, fact, feq_i, feq_l, fhide, first, fjoin, fld, flft, fpick, free_all, fsplit, ftrue, get, handle_shares, heard, hidden_shr, hide, in_block_says, int, join, keep, layout, lent_out, lit, lit<, live, load, look, look_at, looks, move, named, no_more, none_of, nothing, null_ptr, of_opd, owns, pass_all, place, plain, plain_Copied, ptr_own, ptr_val, qed, raw, rawptr_pure, refl, returns, rewrite, rv_opd, says, sem, sep, seq, sets, sets_last, shape, shr_Tells, shr_vals, shuts, split, stay_dropped, stop, suffices, tables, tests_null, through, triple_of, ty_ptr, type_at, unhide, use0, use1, vcons, vnil, vptr, w8, walk_Meets, walk_of, walked, yes, ℕ, !, [], ‵, ◌$◌, ◌+◌, ◌∵◌, ◌∷◌, ◌≡◌, ◌⊛◌}
use contract.Running.{tables_of}
use Rattle.lot_kernel.specs.contracts.kernel.Kernel as kernel
use Rattle.lot_c.specs.contracts.reader.Reader as reader
use Rattle.lot_c.specs.contracts.reader.Reader.get as F
use Rattle.lot_c.specs.contracts.reader.Reader.get.Key.{name as #self}
use Rattle.lot_c.proofs.reader.Reader.get.Statement as stated
use Rattle.lot_c.proofs.reader.Reader.get.Code as code

abbrev stayed : Stays (F.ended).signature.params (F.ended).kept
stayed = (stay_dropped (RefOf (0 ∷ []) tt (plain (λ _. reader.the_row)) (λ _. tt)) yes, tt)

-- the rest of the branch that finds a pointer
abbrev wraps : Body
wraps = seq (assign (place 7 []) (rv_opd (copy (place 8 []))))
    (assign (place 6 []) (aggregate (int w8 1 ∷ copy (place 7 []) ∷ [])))

abbrev Words : RattleType
Words = Struct (shape reader.the_type)

apart : (b o : ℕ) → block_ptr b o ≡ null_ptr → ⊥
apart b o e = cc

module _ {M : Type 1} {𝓤 : Ura M} (𝓛 : Logic 𝓤) (κ : Lft) (b o : ℕ) (p : Ptr) where
  -- a `&` to the reader's one field
  shows_pointer : ent 𝓤 (sem 𝓛 (hidden_shr Words κ (p, tt) b o)) (sem 𝓛 (hidden_shr RawPtr κ p b (o + 0)))
  shows_pointer = qed 𝓛
      (‵ (hidden_shr Words κ (p, tt) b o) ∷ []) ∵ unhide ! $ fsplit ! $ fsplit ! $ hide ! $ keep ! (0 ∷ []) $ done !

module _ {M : Type 1} {𝓤 : Ura M} (𝓛 : Logic 𝓤) (at_mem : Memory → SProp 𝓤) (run : Routine → Fun 𝓤)
    (𝓣 : Tables 𝓤 𝓛.H) where
  open 𝓛 use {H, A}

  abbrev clauses : Clauses 𝓤 F.ended
  clauses = F.clauses 𝓛 at_mem run

  abbrev at_end : (walk_of 𝓛 F.ended stayed clauses).Ghost → (walk_of 𝓛 F.ended stayed clauses).Ghost
  at_end y = ((y.0.0, y.0.1, y.0.2, y.0.3, (shr_vals y.0.3.0, tt)), y.1)

  abbrev Ref : Lft → RattleType
  Ref κ = ShrRef (named 0) κ kernel.the_row

  module _ (y : (walk_of 𝓛 F.ended stayed clauses).Ghost) where
    abbrev κ : Lft
    κ = y.0.0.0

    abbrev d : reader.the_row.Denot
    d = y.0.3.0.now

    abbrev b : ℕ
    b = y.0.3.0.ref_ptr.0

    abbrev o : ℕ
    o = y.0.3.0.ref_ptr.1

    abbrev Out : RattleType
    Out = type_at F.signature.result y.0.0

    abbrev Post : Val → SProp 𝓤
    Post = (walk_of 𝓛 F.ended stayed clauses).post (at_end y)

    none_exits : d.kernel ≡ None → ent 𝓤 (A.lft κ y.0.1.0) (Post (live 0 vnil))
    none_exits none =
        qed 𝓛 (‵ (flft κ y.0.1.0) ∷ []) ∵ suffices ! _
        (ends_at 𝓛 F.ended stayed clauses (at_end y) (live 0 vnil) None (tt, tt) (tt, tt)) $ says ! none $
        nothing ! $ move ! (1 ∷ 0 ∷ []) $ join ! $ use0 𝓛 (‵ (Out.own_val None (live 0 vnil ∷ [])))
        (none_of 𝓛 (Ref κ)) $ nothing ! $ nothing ! $ fjoin ! $ join ! $ move ! (1 ∷ 0 ∷ []) $ join ! $ done !

    some_exits : (x : kernel.the_row.Denot) (pb po : ℕ) → d.kernel ≡ Some x
        → ent 𝓤 (sep 𝓤 (sem 𝓛 (hidden_shr kernel.the_row κ x pb po)) (A.lft κ y.0.1.0))
        (Post (live 1 (vcons (vptr pb po) vnil)))
    some_exits x pb po there =
        let r : Bor kernel.the_row.Denot = record { ref_ptr = (pb, po); now = x } in
        let v : Val = live 1 (vcons (vptr pb po) vnil) in
        qed 𝓛 (‵ (hidden_shr kernel.the_row κ x pb po) ∷ ‵ (flft κ y.0.1.0) ∷ []) ∵ suffices ! _
        (ends_at 𝓛 F.ended stayed clauses (at_end y) v (Some r) (tt, tt) (tt, tt)) $ says ! there $
        feq_i ! (List Val) (vptr pb po ∷ []) (vptr pb po ∷ []) refl $ fjoin ! $ use1 𝓛
        (‵ (Out.own_val (Some r) (v ∷ []))) (Some-of 𝓛 (Ref κ) r (vptr pb po)) $
        nothing ! $ move ! (2 ∷ 0 ∷ []) $ join ! $ move ! (1 ∷ []) $ nothing ! $ nothing ! $ fjoin ! $ join ! $ move
        ! (1 ∷ 0 ∷ []) $ join ! $ done !

    abbrev Run : SProp 𝓤
    Run = WpFn 𝓤 H 𝓣.C 𝓣.Λ code.function (vptr b o ∷ []) Post

    abbrev Goes : Ptr → KernelValue → Type 1
    Goes p held = d.kernel ≡ held → ent 𝓤
        (sep 𝓤 (sem 𝓛 (handle_shares p held κ)) (sep 𝓤 (sem 𝓛 (hidden_shr Words κ (p, tt) b o)) (A.lft κ y.0.1.0))) Run

    goes : (p : Ptr) (held : KernelValue) → Goes p held
    goes (block_ptr pb po) None none =
        qed 𝓛 (‵ (handle_shares (block_ptr pb po) None κ) ∷ ‵ (hidden_shr Words κ (block_ptr pb po, tt) b o)
        ∷ ‵ (flft κ y.0.1.0) ∷ []) ∵ feq_l ! (λ null. absurd (apart pb po null))
    goes null_ptr None none =
        qed 𝓛 (‵ (handle_shares null_ptr None κ) ∷ ‵ (hidden_shr Words κ (null_ptr, tt) b o) ∷ ‵ (flft κ y.0.1.0) ∷ [])
        ∵ drop ! $
        use1 𝓛 (‵ (hidden_shr RawPtr κ null_ptr b (o + 0))) (shows_pointer 𝓛 κ b o null_ptr) $
        enter ! 𝓣.C 𝓣.Λ code.function (vptr b o ∷ []) _ $ alloc_all ! (λ ls.
        pass_all ! refl ((tt, tt), tt) $ let Ev : Env 𝓤 H = env code.function.locals ls in
        looks ! tt RawPtr (plain_Copied 𝓛 Ptr coded_ptr (ty_ptr ∷ []) ptr_own rawptr_pure ptr_val
        RawPtr-laws.tells).opens null_ptr b (o + 0) (λ q' vs. move ! (1 ∷ []) $ feq_l ! (λ e.
        rewrite ! 0 (λ (us : List Val). ‵ (cell_at q' RawPtr.mir us b (o + 0))) e refl $
        sets ! (of_opd ! (load ! (through ! refl (fld ! refl (stop !))) (look ! 0 refl))) refl
        (tt, record { fits = lit< tt }) $
        feq_i ! (List Val) (ptr_val null_ptr ∷ []) (ptr_val null_ptr ∷ []) refl $ move ! (1 ∷ 0 ∷ []) $ shuts
        ! tt RawPtr q' null_ptr (ptr_val null_ptr ∷ []) b (o + 0) $
        sets ! (of_opd ! (get ! refl)) refl (tt, record { fits = lit< tt }) $ sets ! (of_opd ! (get ! refl)) refl
        (tt, record { fits = lit< tt }) $ sets ! (bin ! (get ! refl) (lit ! tt) tt) refl
        (tt, tt) $ first ! $ branches ! (get ! refl)
        (λ _. sets_last ! (agg ! (and_then ! (lit ! tt) (no_more !))) refl
        (tt, (record { fits = lit< tt }, tt)) $ exec ! 𝓣.C 𝓣.Λ Ev (after 5 code.function.body) (at_ret Ev Post) $
        sets ! (of_opd ! (get ! refl)) refl (tt, (record { fits = lit< tt }, tt)) $ returns ! (look_at ! 0 refl)
        $ free_all ! refl $ keep ! (0 ∷ []) $ by ! (none_exits none))
        (λ wrong. absurd wrong))))
    goes null_ptr (Some x) there =
        qed 𝓛 (‵ (handle_shares null_ptr (Some x) κ) ∷ ‵ (hidden_shr Words κ (null_ptr, tt) b o) ∷ ‵ (flft κ y.0.1.0)
        ∷ []) ∵ fsplit ! $ drop ! $ fsplit ! $
        use1 𝓛 (raw (fact 𝓤 (InBlock null_ptr))) (in_block_says 𝓛 null_ptr) $ heard ! (InBlock null_ptr)
        (λ wrong. absurd wrong)
    goes (block_ptr pb po) (Some x) there =
        qed 𝓛 (‵ (handle_shares (block_ptr pb po) (Some x) κ) ∷ ‵ (hidden_shr Words κ (block_ptr pb po, tt) b o)
        ∷ ‵ (flft κ y.0.1.0) ∷ []) ∵ fsplit ! $ fpick ! (λ te. drop ! $ fsplit ! $ drop ! $ hide ! $
        move ! (1 ∷ []) $ use1 𝓛 (‵ (hidden_shr RawPtr κ (block_ptr pb po) b (o + 0)))
        (shows_pointer 𝓛 κ b o (block_ptr pb po)) $ move ! (0 ∷ 2 ∷ []) $
        enter ! 𝓣.C 𝓣.Λ code.function (vptr b o ∷ []) _ $ alloc_all ! (λ ls.
        pass_all ! refl ((tt, tt), tt) $ let Ev : Env 𝓤 H = env code.function.locals ls in
        looks ! tt RawPtr (plain_Copied 𝓛 Ptr coded_ptr (ty_ptr ∷ []) ptr_own rawptr_pure ptr_val
        RawPtr-laws.tells).opens (block_ptr pb po) b (o + 0) (λ q' vs. move ! (1 ∷ []) $ feq_l ! (λ e.
        rewrite ! 0 (λ (us : List Val). ‵ (cell_at q' RawPtr.mir us b (o + 0))) e refl $
        sets ! (of_opd ! (load ! (through ! refl (fld ! refl (stop !))) (look ! 0 refl))) refl (tt, tt) $
        feq_i ! (List Val) (ptr_val (block_ptr pb po) ∷ []) (ptr_val (block_ptr pb po) ∷ []) refl $ move ! (1 ∷ 0 ∷ [])
        $ shuts ! tt RawPtr q' (block_ptr pb po) (ptr_val (block_ptr pb po) ∷ []) b (o + 0) $
        sets ! (of_opd ! (get ! refl)) refl (tt, tt) $ sets ! (of_opd ! (get ! refl)) refl (tt, tt) $ sets ! (bin
        ! (get ! refl) (lit ! tt) (tests_null (block_ptr pb po) te)) refl (tt, tt) $ first ! $ branches ! (get ! refl)
        (λ wrong. absurd wrong)
        (λ _. let Then = any_q (after_seq 𝓤 H (Wp 𝓤 H 𝓣.C 𝓣.Λ Ev (after 5 code.function.body) (at_return 𝓤 H Ev Post))
        (at_return 𝓤 H Ev Post)) in
        let good : Good (layout Out) (live 1 (vcons (vptr pb po) vnil)) = (tt, (record { fits = lit< tt }, (tt, tt))) in
        first ! $ blocks ! $ sets_last ! (addr ! (through ! refl (stop !))) refl
        (tt, tt) $ exec ! 𝓣.C 𝓣.Λ Ev wraps Then $ sets ! (of_opd ! (get ! refl)) refl (tt, tt) $
        sets_last ! (agg ! (and_then ! (lit ! tt) (and_then ! (get ! refl) (no_more !)))) refl good $ exec ! 𝓣.C 𝓣.Λ Ev
        (after 5 code.function.body) (at_ret Ev Post) $ sets ! (of_opd ! (get ! refl)) refl good $
        returns ! (look_at ! 0 refl) $ free_all ! refl $ keep ! (2 ∷ 0 ∷ []) $ by ! (some_exits x pb po there))))))

    walk : ent 𝓤 ((walk_of 𝓛 F.ended stayed clauses).pre (at_end y)) Run
    walk =
        qed 𝓛 (((‵ (flft κ y.0.1.0) ⊛ ‵ ftrue)
        ⊛ ‵ (owns (ShrRef (named 0) κ reader.the_row ∷ []) (y.0.3.0, tt) (vptr b o ∷ [], tt))) ∷ raw (emp 𝓤) ∷ []) ∵
        split ! $ split ! $ move ! (2 ∷ []) $ fsplit ! $ fsplit ! $ drop ! $
        use1 𝓛 (‵ (hidden_shr Words κ (d.at, tt) b o) ⊛ ‵ (fhide (handle_shares d.at d.kernel κ))) (lent_out 𝓛
        reader.struct reader.the_codes reader.the_heap reader.the_lent κ d b o) $ split ! $ move ! (1 ∷ []) $ unhide ! $
        keep ! (0 ∷ 1 ∷ 3 ∷ []) $ by ! (goes d.at d.kernel refl)

pub get_spec : {M : Type 1} → stated.statement M
unfolding tables_of
get_spec 𝓤 𝓛 𝓜 𝓡 wired =
    let 𝓣 : Tables 𝓤 𝓛.H = tables_of 𝓤 𝓛.H 𝓜 (tables 𝓤 𝓛.H 𝓜 𝓡 𝓡.env) in
    let held = clauses 𝓛 𝓜.mem 𝓡.returns 𝓣 in
    entered 𝓤 𝓛.H (triple_of 𝓛 F.signature (F.spec 𝓛 𝓜.mem 𝓡.returns)) 𝓣.C 𝓣.Λ #self code.function
    (code.unfolded 𝓤 𝓛.H 𝓜 𝓡 wired)
    (walk_Meets 𝓛 F.ended stayed
    (Goes-dropped 𝓛 1 (RefOf (0 ∷ []) tt (plain (λ _. reader.the_row)) (λ _. tt)) yes (λ κs x f. refl), tt) held
    (WpFn 𝓤 𝓛.H 𝓣.C 𝓣.Λ code.function) (WpFn-mono 𝓤 𝓛.H 𝓛.laws 𝓣 code.function)
    (walked 𝓛 F.ended stayed held (WpFn 𝓤 𝓛.H 𝓣.C 𝓣.Λ code.function) (λ κs. (shr_vals, tt))
    (λ κs. (shr_Tells (named 0) κs.0 reader.the_row, tt))
    (λ κs qs bounds a g are. walk 𝓛 𝓜.mem 𝓡.returns 𝓣 ((κs, qs, bounds, a, (shr_vals a.0, tt)), g))))
