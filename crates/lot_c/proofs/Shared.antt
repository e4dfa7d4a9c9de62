-- The share of a `&` to a reader, from a borrow of what the reader owns. Assumes `Logic`.
use Rattle.lot_c.proofs.Common.{Fml, KernelValue, Lends, Lft, Logic, None, Ptr, Share, ShrLaws, Some, Testable, Ura, apply∗, assume, await, beside_shr_laws, bor_fracture, bor_open, contraction, done, ent, fbor, fdead, feq, fex, fjoin, flft, fsep, fsplit, fsplit3, ftrue, fupd, fwand, handle_shares, id⊢, keep, later, lent_at, lent_at_shr_laws, lfts, meet_⊑_left, move, moves_from, nothing, now, null_ptr, obor_alter, one_token, pick, qed, raw, said, said_shr_laws, sem, sep, some, span, split, suffices, thinned, upd_i, updating, use1, use2, wand, ℕ, !, [], ‵, ◌$◌, ◌∵◌, ◌∷◌, ◌⊛◌}
use base.Fml.{fseps}
use Rattle.lot_kernel.specs.contracts.kernel.Kernel as kernel
use Rattle.lot_kernel.proofs.kernel.Kernel.TheLaws as kernel_laws

-- what a `&` shares may be had twice, and for a shorter time
pub handle-shares_laws : (p : Ptr) (held : KernelValue) → ShrLaws (handle_shares p held)
handle-shares_laws p None = said_shr_laws (feq Ptr p null_ptr) tt
handle-shares_laws p (Some x) =
    beside_shr_laws (said (fex (Testable p) (λ _. ftrue))) (lent_at kernel.the_row p x)
    (said_shr_laws (fex (Testable p) (λ _. ftrue)) (λ _. tt))
    (lent_at_shr_laws kernel.the_row kernel_laws.the_row_laws.shr_laws p x)

-- a share of a lifetime's token, with what is shared for that lifetime, is shared for as long as the share is borrowed
module _ {M : Type 1} {𝓤 : Ura M} (𝓛 : Logic 𝓤) (t : Lft → Fml) (L : ShrLaws t) (a : ℕ) (e : Share) where
  open 𝓛 use {H, A}

  abbrev Owns : Fml
  Owns = fsep (flft (a ∷ []) e) (t (a ∷ []))

  abbrev Again : Lft → Fml
  Again κ = fwand (fsep (fdead κ) (fseps (flft (a ∷ []) e ∷ []))) (fupd Owns)

  again : (κ : Lft) → ent 𝓤 (sem 𝓛 (t (a ∷ []))) (sem 𝓛 (Again κ))
  unfolding fseps
  again κ = qed 𝓛 (‵ (t (a ∷ [])) ∷ []) ∵ assume ! (‵ (fsep (fdead κ) (fsep (flft (a ∷ []) e) ftrue))) $ suffices
      ! (sem 𝓛 Owns) (upd_i 𝓤 (sem 𝓛 Owns)) $
      fsplit3 ! $ keep ! (1 ∷ 3 ∷ []) $ fjoin ! $ done !

  by_token : (κ : Lft) (q : Share) → ent 𝓤 (sep 𝓤 (A.bor κ Owns) (A.lft κ q)) (H.⇛ (sep 𝓤 (sem 𝓛 (t κ)) (A.lft κ q)))
  unfolding fseps
  by_token κ q = qed 𝓛 (‵ (fbor κ Owns) ∷ ‵ (flft κ q) ∷ []) ∵ updating ! $ bor_open ! tt $ move ! (1 ∷ []) $ fsplit
      ! $ move ! (1 ∷ []) $
      use1 𝓛 (‵ (t (a ∷ [])) ⊛ ‵ (t (a ∷ []))) (contraction 𝓛 t L (a ∷ [])) $ split ! $ use1 𝓛 (‵ (Again κ))
      (again κ) $ nothing ! $ move ! (3 ∷ 0 ∷ []) $ fjoin ! $
      move ! (3 ∷ 0 ∷ 1 ∷ []) $ obor_alter ! tt (flft (a ∷ []) e ∷ []) $
      use1 𝓛 (‵ (fbor κ (flft (a ∷ []) e)) ⊛ ‵ ftrue) (id⊢ 𝓤 _) $ split ! $ bor_fracture ! tt
      (λ r. flft (a ∷ []) r) e $ move ! (0 ∷ 3 ∷ []) $
      use2 𝓛 (‵ (t κ))
      (moves_from 𝓛 t L κ (a ∷ []) (a ∷ []) (meet_⊑_left (a ∷ []) κ)) $ now ! $ keep ! (0 ∷ 2 ∷ []) $ done !

  pub Lends-loan : (l : Lft) → Lends 𝓛 (fsep (flft (a ∷ []) e) (t (a ∷ []))) t l
  Lends-loan l κ ts inc sp = qed 𝓛 (‵ (fbor κ Owns) ∷ raw (lfts 𝓛 ts) ∷ []) ∵ updating ! $ move ! (1 ∷ []) $
      use1 𝓛 (some (λ (q : Share). ‵ (flft (span ts) q) ⊛ raw (wand 𝓤 (A.lft (span ts) q) (lfts 𝓛 ts))))
      (one_token 𝓛 ts) $ pick ! (λ q. split ! $
      use1 𝓛 (‵ (flft κ (thinned κ q)) ⊛ raw (wand 𝓤 (A.lft κ (thinned κ q)) (A.lft (span ts) q)))
      (𝓛.lfts.lft-incl (span ts) κ q sp) $ split ! $ move ! (3 ∷ 0 ∷ []) $
      use2 𝓛 (later (‵ (t κ) ⊛ ‵ (flft κ (thinned κ q))))
      (by_token κ (thinned κ q)) $ await ! tt $ split ! $ move ! (1 ∷ 2 ∷ []) $
      use2 𝓛 (‵ (flft (span ts) q)) (apply∗ 𝓤 (A.lft κ (thinned κ q)) (A.lft (span ts) q)) $ move ! (0 ∷ 2 ∷ [])
      $ use2 𝓛 (raw (lfts 𝓛 ts)) (apply∗ 𝓤 (A.lft (span ts) q) (lfts 𝓛 ts)) $
      now ! $ move ! (1 ∷ 0 ∷ []) $ done !)
