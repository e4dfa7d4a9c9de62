-- The turns of all seats' workers, and then the first stored fault.
use Rattle.lot_processors.proofs.Common.{EachSeat, List, None, Option, Some, TurnFault, ap, arith, inl, inr, is_some, length, slice_index_or, subst, sym, true≢false, ℕ, ◌<◌, ◌∙◌, ◌≡◌, ◌⊎◌}

-- Seats that may keep a fault: one that has made all keeps none, and one that was stopped is still that if its fault is
-- taken out.
module _ (S : Type 0) (kept : S → Option TurnFault) (freed : S → S) (Made : S → S → Type 0)
    (Stopped : TurnFault → S → S → Type 0)
    (keeps_none : (s t : S) → Made s t → kept t ≡ None) (frees : (s : S) → kept (freed s) ≡ None)
    (stays : (f : TurnFault) (s t : S) → Stopped f s t → Stopped f s (freed t)) where
  abbrev Worked : S → S → Type 0
  Worked s t = Made s t ⊎ ((fault : TurnFault) × (kept t ≡ Some fault) × Stopped fault s t)

  some_same : (f g : TurnFault) → Some f ≡ Some g → f ≡ g
  some_same f g e = cc

  made_all : (s t : S) → Worked s t → kept t ≡ None → Made s t
  made_all s t (inl made) none = made
  made_all s t (inr (fault, is, stops)) none = absurd (true≢false (ap is_some (sym is ∙ none)))

  was_stopped : (fault : TurnFault) (s t : S) → Worked s t → kept t ≡ Some fault → Stopped fault s t
  was_stopped fault s t (inl made) some = absurd (true≢false (ap is_some (sym some ∙ keeps_none s t made)))
  was_stopped fault s t (inr (other, is, stops)) some =
      subst (λ f. Stopped f s t) (some_same other fault (sym is ∙ some)) stops

  module _ (before mid after : List S) (each : EachSeat before mid (λ k s t. Worked s t)) where
    -- if no seat keeps a fault, each has made all
    pub all_made : after ≡ mid → ((k : ℕ) (d : S) → k < length before → kept (slice_index_or mid k d) ≡ None)
        → EachSeat before after (λ k s t. Made s t)
    all_made is none k d low =
        let s = slice_index_or before k d in
        subst (λ (l : List S). Made s (slice_index_or l k d)) (sym is)
        (made_all s (slice_index_or mid k d) (each k d low) (none k d low))

    -- else the fault is taken out of the first seat that keeps one
    module _ (found : TurnFault) (place : ℕ) (as_many : length mid ≡ length before)
        (fault : EachSeat mid after (λ k s t. k ≡ place → (kept s ≡ Some found) × (t ≡ freed s)))
        (none : EachSeat mid after (λ k s t. k < place → kept s ≡ None))
        (others : EachSeat mid after (λ k s t. ¬ (k ≡ place) → t ≡ s)) where
      in_mid : (k : ℕ) → k < length before → k < length mid
      in_mid k low = omega (arith, low, as_many)

      -- it stopped that seat, which keeps none now
      pub first_stopped : EachSeat before after (λ k s t. k ≡ place → Stopped found s t × (kept t ≡ None))
      first_stopped k d low same =
          let s = slice_index_or before k d in
          let m = slice_index_or mid k d in
          let taken = fault k d (in_mid k low) same in
          subst (λ (t : S). Stopped found s t × (kept t ≡ None)) (sym taken.1)
          (stays found s m (was_stopped found s m (each k d low) taken.0), frees m)

      -- each seat before it has made all
      pub earlier_made : EachSeat before after (λ k s t. k < place → Made s t)
      earlier_made k d low front =
          let s = slice_index_or before k d in
          let m = slice_index_or mid k d in
          let same = others k d (in_mid k low) (λ at. absurd (omega (arith, at, front))) in
          subst (λ (t : S). Made s t) (sym same) (made_all s m (each k d low) (none k d (in_mid k low) front))

      -- and each one after it is as its worker left it
      pub later_worked : EachSeat before after (λ k s t. place < k → Worked s t)
      later_worked k d low following =
          let s = slice_index_or before k d in subst (λ (t : S). Worked s t)
          (sym (others k d (in_mid k low) (λ at. absurd (omega (arith, at, following))))) (each k d low)
