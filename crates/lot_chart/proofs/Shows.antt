-- The text written for curves.
use Rattle.lot_chart.proofs.Common.{AllocError, Curves, Done, Err, IfOk, IoFault, List, Memory, None, Ok, Option, Played, Plays, Result, Shows, Some, Watch, ap, false, refl, subst, sym, ℕ, ◌∙◌, ◌≡◌}
use Rattle.std.specs.Io.KnownBytes.{Keeps}

keeps-all : (known : Option (List ℕ)) → Keeps known known
keeps-all None = tt
keeps-all (Some bytes) = refl

module _ {T V : Type 0} (contents : T → Option (List ℕ)) (old new : Watch T) (bytes : V → List ℕ)
    (show : Curves → List ℕ) (result : Result Played IoFault) (working : old.failed ≡ false) where
  kept : result ≡ Err Memory → new ≡ old → (came : Played) (text : List ℕ) → Plays contents old new result came text
  kept is same came text =
      subst (λ (r : Result Played IoFault). Plays contents old new r came text) (sym is)
      (subst (λ (w : Watch T). Plays contents old w (Err Memory) came text) (sym same)
      (working, keeps-all (contents old.inner)))

  -- the text of the curves was written, if they are those that were wanted
  pub shows-plays : (wanted curves : Curves) (text : Result V AllocError) → curves ≡ wanted
      → IfOk text (λ v. bytes v ≡ show curves) → Shows contents old new text bytes result
      → Plays contents old new result Done (show wanted)
  shows-plays wanted curves (Ok v) same is shows = subst (Plays contents old new result Done) (is ∙ ap show same) shows
  shows-plays wanted curves (Err fault) same is shows = kept shows.0 shows.1 Done (show wanted)
