-- A ticket's amount changes in place.
use Rattle.lot_machine.proofs.Common.{Funding, FundsThere, HasNoCycle, List, None, Option, Some, Ticket, ap, at_number, false, inl, inr, is_none, issuer_of, option_flatten, option_map, refl, reissued, suc, sym, target_of, ticket_in, with_amount, ℕ, ◌-◌, ◌∙◌, ◌≡◌, ◌⊎◌}
use Rattle.lot_machine.proofs.Changes.{number-set, number-there}
use Rattle.lot_machine.proofs.Paths.{fewer-steps}
use Rattle.lot_machine.proofs.FundingKept.{FundsFrom, no-return, no-chain-back}

-- ---- an amount that changes leaves what funds what

pub amount-kept : {B : Type 0} (look : Ticket → B) → ((amount : ℕ) (t : Ticket) → look (reissued amount t) ≡ look t)
    → (tickets : List (Option Ticket)) (n amount k : ℕ) (place : Option Ticket) → at_number tickets n ≡ Some place
    → option_map look (ticket_in (with_amount tickets n amount) k) ≡ option_map look (ticket_in tickets k)
amount-kept look same tickets n amount k place there =
    from (number-set tickets n (option_map (reissued amount) (ticket_in tickets n)) k)
  where
    again : (o : Option Ticket) → option_map look (option_map (reissued amount) o) ≡ option_map look o
    again None = refl
    again (Some t) = ap Some (same amount t)

    from : (at_number (with_amount tickets n amount) k ≡ at_number tickets k) ⊎ ((k ≡ suc (n - 1))
        × (at_number (with_amount tickets n amount) k ≡ Some (option_map (reissued amount) (ticket_in tickets n))))
        → option_map look (ticket_in (with_amount tickets n amount) k) ≡ option_map look (ticket_in tickets k)
    from (inl same_place) = ap (λ o. option_map look (option_flatten o)) same_place
    from (inr (at, is)) =
        ap (λ o. option_map look (option_flatten o)) is ∙ again (ticket_in tickets n)
        ∙ ap (λ m. option_map look (ticket_in tickets m)) (sym (at ∙ number-there tickets n place there))

-- so each ticket's issuer and target stay, and with them each edge, each chain and each cycle
pub amount-issuers : (f : Funding) (n amount k : ℕ) (place : Option Ticket) → at_number f.tickets n ≡ Some place
    → issuer_of (record f { tickets = with_amount f.tickets n amount }) k ≡ issuer_of f k
amount-issuers f n amount k place there =
    amount-kept (λ (t : Ticket). t.issuer) (λ a t. refl) f.tickets n amount k place there

pub amount-targets : (f : Funding) (n amount k : ℕ) (place : Option Ticket) → at_number f.tickets n ≡ Some place
    → target_of (record f { tickets = with_amount f.tickets n amount }) k ≡ target_of f k
amount-targets f n amount k place there =
    amount-kept (λ (t : Ticket). t.target) (λ a t. refl) f.tickets n amount k place there

-- nothing makes a cycle then, and tickets still fund only currencies that are there
pub HasNoCycle-amount : (f : Funding) (n amount : ℕ) (place : Option Ticket) → at_number f.tickets n ≡ Some place
    → HasNoCycle f → HasNoCycle (record f { tickets = with_amount f.tickets n amount })
HasNoCycle-amount f n amount place there no_cycle = record {
  funding = no-chain-back (record f { tickets = with_amount f.tickets n amount })
      (fewer-steps (FundsFrom (record f { tickets = with_amount f.tickets n amount })) (FundsFrom f)
      (λ c d (k, issued, funds). (k, sym (amount-issuers f n amount k place there) ∙ issued, sym (amount-targets f n amount k place there) ∙ funds))
      (no-return f no_cycle));
  lends = no_cycle.lends;
}

pub FundsThere-amount : (f : Funding) (n amount : ℕ) (place : Option Ticket) → at_number f.tickets n ≡ Some place
    → FundsThere f → FundsThere (record f { tickets = with_amount f.tickets n amount })
FundsThere-amount f n amount place there funds k c e = funds k c (sym (amount-targets f n amount k place there) ∙ e)

-- a ticket that is there has a place
pub place-of : (tickets : List (Option Ticket)) (n : ℕ) → is_none (ticket_in tickets n) ≡ false
    → (place : Option Ticket) × (at_number tickets n ≡ Some place)
place-of tickets n here = from (at_number tickets n) refl here
  where
    from : (o : Option (Option Ticket)) → at_number tickets n ≡ o → is_none (option_flatten o) ≡ false
        → (place : Option Ticket) × (at_number tickets n ≡ Some place)
    from None is none = cc
    from (Some place) is some = (place, is)
