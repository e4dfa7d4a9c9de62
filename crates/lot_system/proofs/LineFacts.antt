-- Lines put on the page, turn by turn.
use Rattle.lot_system.proofs.Common.{Begins, Bool, Err, IfErr, IoFault, IsPut, List, MadeTurn, Ok, OnOk, Option, Put, Result, Write, Written, ap, append-nil, begins-front, false, flat_map, flat_map-append, put-all, put-begun, puts-both, puts-stop, subst, sym, true, ℕ, [], ◌++◌, ◌∙◌, ◌∷◌, ◌≡◌}

-- ---- texts of turns, each of which is this one

module _ (text : MadeTurn → List ℕ) where
  texts-one_more : (turns : List MadeTurn) (made : MadeTurn)
      → flat_map text turns ++ text made ≡ flat_map text (turns ++ made ∷ [])
  texts-one_more turns made = ap (λ ts. flat_map text turns ++ ts) (sym (append-nil (text made)))
      ∙ sym (flat_map-append text turns (made ∷ []))

  module _ (old mid new : Option (List ℕ)) (waits : List ℕ) (turns : List MadeTurn) (made : MadeTurn)
      (one : IsPut old mid [] waits (flat_map text turns)) where
    -- one turn's text more is put
    pub texts-more : (after : List ℕ) → IsPut mid new waits after (text made)
        → IsPut old new [] after (flat_map text (turns ++ made ∷ []))
    texts-more after two = subst (IsPut old new [] after) (texts-one_more turns made)
        (puts-both old mid new [] waits after (flat_map text turns) (text made) one two)

    -- a beginning of what waits and then that turn's text is one of all
    pub texts-stop : Begins mid new (waits ++ text made) → Begins old new (flat_map text (turns ++ made ∷ []))
    texts-stop two = subst (Begins old new) (texts-one_more turns made)
        (puts-stop old mid new [] waits [] (flat_map text turns) (text made) one two)

  -- a beginning of the first turns' texts is one of all
  pub texts-begun : (old new : Option (List ℕ)) (turns others all : List MadeTurn) → all ≡ turns ++ others
      → Begins old new (flat_map text turns) → Begins old new (flat_map text all)
  texts-begun old new turns others all is one =
      subst (Begins old new) (sym (flat_map-append text turns others) ∙ ap (flat_map text) (sym is))
      (begins-front old new (flat_map text turns) (flat_map text others) one)

-- ---- by the result

module _ {U : Type 0} (text : MadeTurn → List ℕ) (mid new : Option (List ℕ)) (waits after : List ℕ) (failed : Bool)
    (P : MadeTurn → Type 0) where
  pub put-ok : (r : Result U IoFault) → ((made : MadeTurn) → P made → Put mid new waits after failed r (text made))
      → {Q : Type 0}
      → (((made : MadeTurn) → P made → (failed ≡ false) × IsPut mid new waits after (text made)) → Q) → OnOk r Q
  put-ok (Ok x) told from = from told
  put-ok (Err fault) told from = tt

  pub put-err : (r : Result U IoFault) → ((made : MadeTurn) → P made → Put mid new waits after failed r (text made))
      → {Q : IoFault → Type 0}
      → ((fault : IoFault) → ((made : MadeTurn) → P made
      → (fault ≡ Write) × (failed ≡ true) × Begins mid new (waits ++ text made)) → Q fault) → IfErr r Q
  put-err (Ok x) told from = tt
  put-err (Err fault) told from = from fault told

-- what waits is written after what was
pub pages-out : {U : Type 0} (old mid new : Option (List ℕ)) (page text : List ℕ) (failed : Bool) (r : Result U IoFault)
    → IsPut old mid [] page text → Written mid new failed r page → Written old new failed r text
pages-out old mid new page text failed (Ok x) one two = (two.0, put-all old mid new page text one two.1)
pages-out old mid new page text failed (Err fault) one two = (two.0, two.1, put-begun old mid new page text one two.2)
