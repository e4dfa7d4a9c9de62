use Rattle.lot_laws.proofs.Lemmas.{BadAmount, BadName, Bool, MakeCurrency, MakeFunded, MakeThread, MakeTicket, NameTaken, NoCurrency, NoScript, are_currencies_full, are_threads_full, are_tickets_full, command_effect, currencies-full, currency_meant, false, full-exactly, inl, inr, is_bad_amount, is_name, is_no_script, is_none, is_taken, is_thread_name, not, or_cases, reachable-order, refl, threads-full, tickets-full, true, [], ◌||◌, ◌∷◌, ◌≡◌, ◌⊎◌}
use Rattle.std.proofs.lemmas.Bool.{or_left, or_right}
use Rattle.lot_laws.specs.Numbers.{HasAllThreads, HasAllTickets, IsGoodThread}
use Rattle.lot_laws.proofs.reused.full_means_full.Goals as goal

holds : (b : Bool) → not b ≡ false → b ≡ true
holds true e = refl
holds false e = cc

fails : (b : Bool) → b ≡ true → not b ≡ false
fails true e = refl
fails false e = cc

pub returns-clause-ticket : goal.returns-clause-ticket
returns-clause-ticket c s amount currency reached =
    let exactly = full-exactly s ((is_bad_amount amount, BadAmount) ∷ (is_none (currency_meant s currency), NoCurrency)
    ∷ []) (are_tickets_full s) (command_effect s (MakeTicket amount currency)) (λ e. cc) (λ e. cc, (λ e. cc, tt)) in
    let full = tickets-full s (reachable-order s reached) in (
      λ is. let (pass, all) = exactly.0 is in ((pass.0, pass.1.0), full.0 all),
      λ (good, all). exactly.1 ((good.0, (good.1, tt)), full.1 all),
    )

pub returns-clause-currency : goal.returns-clause-currency
returns-clause-currency c s name reached =
    let exactly = full-exactly s ((not (is_name s.limits name), BadName) ∷ (is_taken s name, NameTaken) ∷ [])
    (are_currencies_full s) (command_effect s (MakeCurrency name)) (λ e. cc) (λ e. cc, (λ e. cc, tt)) in
    let full = currencies-full s reached in (
      λ is. let (pass, all) = exactly.0 is in ((holds (is_name s.limits name) pass.0, pass.1.0), full.0 all),
      λ (good, all). exactly.1 ((fails (is_name s.limits name) good.0, (good.1, tt)), full.1 all),
    )

pub returns-clause-thread : goal.returns-clause-thread
returns-clause-thread c s name script reached =
    let exactly = full-exactly s ((not (is_thread_name s.limits name), BadName) ∷ (is_taken s name, NameTaken)
    ∷ (is_no_script s script, NoScript) ∷ []) (are_threads_full s) (command_effect s (MakeThread name script))
    (λ e. cc) (λ e. cc, (λ e. cc, (λ e. cc, tt))) in
    let full = threads-full s reached in (
      λ is. let (pass, all) = exactly.0 is in
          ((holds (is_thread_name s.limits name) pass.0, pass.1.0, pass.1.1.0), full.0 all),
      λ (good, all). exactly.1 ((fails (is_thread_name s.limits name) good.0, (good.1, (good.2, tt))), full.1 all),
    )

pub returns-clause-funded : goal.returns-clause-funded
returns-clause-funded c s amount currency name script reached =
    let exactly = full-exactly s ((is_bad_amount amount, BadAmount) ∷ (is_none (currency_meant s currency), NoCurrency)
    ∷ (not (is_thread_name s.limits name), BadName) ∷ (is_taken s name, NameTaken)
    ∷ (is_no_script s script, NoScript) ∷ []) (are_tickets_full s || are_threads_full s)
    (command_effect s (MakeFunded amount currency name script)) (λ e. cc)
    (λ e. cc, (λ e. cc, (λ e. cc, (λ e. cc, (λ e. cc, tt))))) in (
      λ is. let (pass, all) = exactly.0 is in
          let thread : IsGoodThread s name script =
          (holds (is_thread_name s.limits name) pass.1.1.0, pass.1.1.1.0, pass.1.1.1.1.0) in
          ((pass.0, pass.1.0), thread, either (or_cases (are_tickets_full s) (are_threads_full s) all)),
      λ (ticket, thread, all). exactly.1
          ((ticket.0, (ticket.1, (fails (is_thread_name s.limits name) thread.0, (thread.1, (thread.2, tt))))), one all),
    )
  where
    either : (are_tickets_full s ≡ true) ⊎ (are_threads_full s ≡ true) → HasAllTickets s ⊎ HasAllThreads s
    either (inl full) = inl ((tickets-full s (reachable-order s reached)).0 full)
    either (inr full) = inr ((threads-full s reached).0 full)

    one : HasAllTickets s ⊎ HasAllThreads s → (are_tickets_full s || are_threads_full s) ≡ true
    one (inl all) =
        or_left (are_tickets_full s) (are_threads_full s) ((tickets-full s (reachable-order s reached)).1 all)
    one (inr all) = or_right (are_tickets_full s) (are_threads_full s) ((threads-full s reached).1 all)
