-- A server that waits with nothing of its own.
use Rattle.lot_laws.proofs.Common.{Funding, LendsTo, Nobody, None, Option, OwnsNothing, Some, after, ap, at_number, at_number-suc, borrower, funding_of, option_and_then, refl, suc, sym, waiting_server, zero, ℕ, [], ◌∙◌, ◌∷◌, ◌≡◌}

-- two threads that lend to nobody
no-lender : (f : Funding) → f.lends ≡ Nobody ∷ Nobody ∷ [] → (u : ℕ) → ¬ LendsTo f u 1
no-lender f lends zero is = cc
no-lender f lends (suc zero) is = let none : ◌≡◌ {A = Option ℕ} None (Some 1) =
    sym (ap (λ xs. option_and_then (borrower f) (at_number xs 1)) lends) ∙ is in cc
no-lender f lends (suc (suc zero)) is = let none : ◌≡◌ {A = Option ℕ} None (Some 1) =
    sym (ap (λ xs. option_and_then (borrower f) (at_number xs 2)) lends) ∙ is in cc
no-lender f lends (suc (suc (suc n))) is =
    let past : at_number f.lends (suc (suc (suc n))) ≡ None = ap (λ xs. at_number xs (suc (suc (suc n)))) lends
    ∙ at_number-suc (Nobody ∷ Nobody ∷ []) (suc (suc n)) in
    let none : ◌≡◌ {A = Option ℕ} None (Some 1) = sym (ap (option_and_then (borrower f)) past) ∙ is in cc

pub owns-nothing : OwnsNothing (after waiting_server) 1
owns-nothing = (refl, no-lender (funding_of (after waiting_server)) refl)
