-- A handle of something owns what a box of it owns, and a handle of nothing is null. Assumes `Logic`.
use Rattle.lot_c.proofs.Common.{Bx, Fits, Fml, Global, Goal, Good, Item, KernelValue, List, Logic, None, P, Ptr, RattleType, Seq, Slot, Some, Testable, Ura, Val, Valss, and_tt, block_ptr, box_owns, dealloc_token-Testable, dict, dnil, drop, fact_use, false, feq_i, feq_l, fjoin, fpack, fpick, fsplit, fst∗, full_share, ghosts, given, guard_i, handle_tells, impl, in_a_block, is_none, layout, learn, lies_at, lit<, lone, move, never, nothing, null_ptr, of_list, plain, ptr_val, refl, sem, shape, snd∗, subst, tnil, to, use1, via, vstruct, within, word, ℕ, [], ‵, ◌$◌, ◌++◌, ◌∷◌, ◌≡◌}
use mir.Raw.{raw as bare}
use types.Kit.{Step, step}
use denote.Builtin.{RawPtr}
use Rattle.std.specs.contracts.alloc.Global as Heap
use Rattle.std.proofs.alloc.Global.TheLaws as heap
use Rattle.lot_kernel.specs.contracts.kernel.Kernel as kernel
use Rattle.lot_kernel.proofs.kernel.Kernel.TheLaws as kernel_laws
use Rattle.lot_c.specs.contracts.parts.Parts as parts
use Rattle.lot_c.specs.contracts.handle.Handle as handle

abbrev pub E : Bx
E = record { row = kernel.the_row; laws = kernel_laws.the_row_laws; al = record { row = Heap.the_row; laws = heap.the_row_laws; g = ghosts; d = dict; drops = impl [] tnil dnil } }

abbrev pub FromParts-row : RattleType
FromParts-row = parts.the_row kernel.the_row Heap.the_row ghosts

abbrev pub FromParts : Slot 0
FromParts = plain (λ _. FromParts-row)

abbrev pub FromHandle : Slot 0
FromHandle = plain (λ _. handle.the_row)

-- a handle that has a kernel isn't empty
pub is-filled : (holds : KernelValue) → is_none holds ≡ false → holds ≡ None → ⊥
is-filled None filled none = cc
is-filled (Some k) filled none = cc

abbrev pub held : Ptr → Global → KernelValue → handle.the_row.Denot
held at alloc holds = record { at = at; alloc = alloc; kernel = holds }

-- the machine's value of a handle of nothing
abbrev pub null_word : Val → Val
null_word hv = vstruct (of_list (ptr_val null_ptr ∷ hv ∷ []))

pub null_typed : (hv : Val) → Fits E.al hv → Good (layout handle.the_row) (null_word hv)
null_typed hv fa = (and_tt _ fa.0, (record { fits = lit< tt }, (fa.1, tt)))

module _ {M : Type 1} {𝓤 : Ura M} {𝓛 : Logic 𝓤} {K : Type 0} {Γ : List (Item 𝓤)} {G : Goal 𝓤 𝓛.H} where
  -- a box's pointer may be compared with null
  pub tests : K → (alloc : Global) (p : Ptr) (x : kernel.the_row.Denot)
      → (Testable p → Seq K 𝓛 (‵ (box_owns (ghosts.dealloc_token alloc) kernel.the_row p x) ∷ Γ) G)
      → Seq K 𝓛 (‵ (box_owns (ghosts.dealloc_token alloc) kernel.the_row p x) ∷ Γ) G
  tests t alloc p x k =
      let O : Fml = box_owns (ghosts.dealloc_token alloc) kernel.the_row p x in
      use1 𝓛 (given (Testable p) (‵ O)) (fact_use 𝓤 (Testable p) (via 𝓤 _ (snd∗ 𝓤 (sem 𝓛
      (lies_at kernel.the_row full_share p x)) (sem 𝓛 (ghosts.dealloc_token alloc (bare (lone kernel.the_row.mir)) p)))
      (dealloc_token-Testable 𝓛 alloc (bare (lone kernel.the_row.mir)) p)) (guard_i 𝓤 (Testable p) (sem 𝓛 O))) $
      learn t (λ e. k e)

module _ {M : Type 1} {𝓤 : Ura M} {𝓛 : Logic 𝓤} {K : Type 0} {Γ : List (Item 𝓤)} {G : Goal 𝓤 𝓛.H} where
  -- by what it holds: nothing, at null, or a box
  pub handle_out : K → (at : Ptr) (alloc : Global) (holds : KernelValue) (vs : List Val)
      → ((hv : Val) → holds ≡ None → at ≡ null_ptr → vs ≡ null_word hv ∷ [] → Fits E.al hv
      → Seq K 𝓛 (‵ ((P E).own_val alloc (hv ∷ [])) ∷ Γ) G)
      → ((b o : ℕ) (hv : Val) (x : kernel.the_row.Denot) → holds ≡ Some x → at ≡ block_ptr b o → vs ≡ word E hv b o ∷ []
      → Fits E.al hv → Testable (block_ptr b o)
      → Seq K 𝓛 (‵ (box_owns (ghosts.dealloc_token alloc) kernel.the_row (block_ptr b o) x)
      ∷ ‵ ((P E).own_val alloc (hv ∷ [])) ∷ Γ) G)
      → Seq K 𝓛 (‵ (handle.the_row.own_val (held at alloc holds) vs) ∷ Γ) G
  handle_out t at alloc None vs none some =
      fsplit t $ fpick t (λ vss. fsplit t $ feq_l t (λ ev. fsplit t $ feq_l t
      (λ ep. fsplit t $ handle_tells E.al t alloc vss.1.0 (λ hv ea fa. move t (1 ∷ []) $ drop t $ move t (1 ∷ []) $
      feq_l t (λ e. none hv refl e
      (subst (λ (p : Ptr). vs ≡ vstruct (of_list (ptr_val p ∷ hv ∷ [])) ∷ []) e
      (subst (λ (ws : List Val). vs ≡ vstruct (of_list (ptr_val at ∷ (ws ++ []))) ∷ []) ea
      (subst (λ (ps : List Val). vs ≡ vstruct (of_list (ps ++ (vss.1.0 ++ []))) ∷ []) ep ev))) fa)))))
  handle_out t at alloc (Some x) vs none some =
      fsplit t $ fpick t (λ vss. fsplit t $ feq_l t (λ ev. fsplit t $ feq_l t
      (λ ep. fsplit t $ handle_tells E.al t alloc vss.1.0 (λ hv ea fa. move t (1 ∷ []) $ drop t $ move t (1 ∷ []) $
      in_a_block t at (λ p. box_owns (ghosts.dealloc_token alloc) kernel.the_row p x)
      (fst∗ 𝓤 (never 𝓤) (sem 𝓛 (ghosts.dealloc_token alloc (bare (lone kernel.the_row.mir)) null_ptr))) (λ b o e.
      tests t alloc (block_ptr b o) x (λ te. some b o hv x refl e
      (subst (λ (p : Ptr). vs ≡ vstruct (of_list (ptr_val p ∷ hv ∷ [])) ∷ []) e
      (subst (λ (ws : List Val). vs ≡ vstruct (of_list (ptr_val at ∷ (ws ++ []))) ∷ []) ea
      (subst (λ (ps : List Val). vs ≡ vstruct (of_list (ps ++ (vss.1.0 ++ []))) ∷ []) ep ev))) fa te))))))

module _ {M : Type 1} {𝓤 : Ura M} {𝓛 : Logic 𝓤} {K : Type 0} {Γ : List (Item 𝓤)} {G : Goal 𝓤 𝓛.H} where
  -- a handle of nothing
  pub handle_in : K → (alloc : Global) (hv : Val)
      → Step K 𝓛 (‵ (handle.the_row.own_val (held null_ptr alloc None) (null_word hv ∷ [])) ∷ Γ) G
      (‵ ((P E).own_val alloc (hv ∷ [])) ∷ Γ) G
  handle_in t alloc hv = step (λ s. let v : Val = null_word hv in
      nothing t $ move t (1 ∷ 0 ∷ []) $ fjoin t $ feq_i t (List Val) (ptr_val null_ptr ∷ [])
      (ptr_val null_ptr ∷ []) refl $ fjoin t $ feq_i t (List Val) (v ∷ []) (v ∷ []) refl $ fjoin t $
      fpack t (Valss (RawPtr ∷ Heap.the_row ∷ []))
      (within (shape handle.the_type) (to handle.the_type (held null_ptr alloc None)) (v ∷ []))
      (ptr_val null_ptr ∷ [], (hv ∷ [], tt)) $ feq_i t Ptr null_ptr null_ptr refl $ move t (1 ∷ 0 ∷ []) $ fjoin t $ s)
