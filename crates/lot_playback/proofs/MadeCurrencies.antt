-- The new threads and currencies of a turn: no count falls, and the reply tells each new currency.
use Rattle.lot_playback.proofs.Common.{Answered, Answers, By, Command, Currencies, DropCurrency, Event, Keeps, List, MakeCurrency, NewCurrency, None, Option, Refusal, RemoveCurrency, Reply, Sharers, Some, State, Step, Threads, ap, arith, by_event, command_effect, command_refusal, command_step, count_in, currency_or_base, eq-eqb, free_currencies, kept, length, length-append, length-set, makes_currency, next_place, placed, refl, step, step-grown, step-leads, true, unless_refused, ℕ, [], ◌+◌, ◌<◌, ◌==◌, ◌∙◌, ◌∷◌, ◌≡◌, ◌≤◌}
use Rattle.lot_machine.specs.declared.event.Event.TheVariants as event
use Rattle.lot_machine.proofs.StepChanges.{IsConsole}

-- there are no fewer currencies, and the reply tells each new one
record Tells (s : State) (next : Step) : Type 0 where
  more : length s.currencies ≤ length next.state.currencies
  new : (e : Event) (c : ℕ) → length s.currencies ≤ c → c < length next.state.currencies
      → makes_currency c (Answered e next.reply) ≡ true

same-tells : (s : State) (next : Step) → length next.state.currencies ≡ length s.currencies → Tells s next
same-tells s next same =
    record { more = omega (arith, same); new = λ e c above below. absurd (omega (arith, same, above, below)) }

unless-tells : (s : State) (o : Option Refusal) (next : Step) → Tells s next → Tells s (unless_refused s o next)
unless-tells s None next tells = tells
unless-tells s (Some why) next tells = same-tells s (unless_refused s (Some why) next) refl

made-tells : (s : State) (name : List ℕ) (free : List ℕ) → free_currencies s ≡ free
    → Tells s (command_effect s (MakeCurrency name))
made-tells s name [] is = record {
  more = omega (arith, long);
  new = λ e c above below. ap (λ places. next_place s.currencies places == c) is
      ∙ eq-eqb (length s.currencies) c (omega (arith, long, above, below));
}
  where
    long : length (placed s.currencies (free_currencies s) (Some name)) ≡ length s.currencies + 1
    long = ap (λ places. length (placed s.currencies places (Some name))) is
        ∙ length-append s.currencies (Some name ∷ [])
made-tells s name (place ∷ free) is =
    same-tells s (command_effect s (MakeCurrency name))
    (ap (λ places. length (placed s.currencies places (Some name))) is ∙ length-set s.currencies place (Some name))

command-tells : (s : State) (c : Command) → Tells s (command_step s c)
command-tells s (MakeCurrency name) =
    unless-tells s _ (command_effect s (MakeCurrency name)) (made-tells s name (free_currencies s) refl)
command-tells s (RemoveCurrency currency) =
    unless-tells s _ (command_effect s (RemoveCurrency currency)) (same-tells s
    (command_effect s (RemoveCurrency currency)) (length-set s.currencies (currency_or_base s currency) None))
command-tells s other =
    unless-tells s (command_refusal s other) (command_effect s other) (same-tells s (command_effect s other) refl)

-- only the console changes the currencies
change-currencies : (by : By) (s : State) → ¬ IsConsole by → Keeps by s (λ a. a.currencies ≡ s.currencies)
change-currencies by s other a (NewCurrency name) allowed same = absurd (other allowed)
change-currencies by s other a (DropCurrency c) allowed same = absurd (other allowed.0)
change-currencies by s other a c allowed same = same

other-tells : (s : State) (e : Event) → ¬ IsConsole (by_event s e) → Tells s (step s e)
other-tells s e other =
    same-tells s (step s e) (ap length
    (kept (λ a. a.currencies ≡ s.currencies) (change-currencies (by_event s e) s other) (step-leads s e) refl))

step-tells : (s : State) (e : Event) → Tells s (step s e)
step-tells s (event.Command c) = command-tells s c
step-tells s (event.Draw p d) = other-tells s (event.Draw p d) (λ e. cc)
step-tells s (event.Expire p) = other-tells s (event.Expire p) (λ e. cc)
step-tells s (event.Trap p ran action) = other-tells s (event.Trap p ran action) (λ e. cc)
step-tells s (event.Preempt p ticks) = other-tells s (event.Preempt p ticks) (λ e. cc)
step-tells s (event.Overrun p ticks) = other-tells s (event.Overrun p ticks) (λ e. cc)
step-tells s (event.Wake t) = other-tells s (event.Wake t) (λ e. cc)

module _ (s : State) (e : Event) (r : Reply) (next : State) (answers : Answers s e r next) where
  tells : Tells s (record { state = next; reply = r })
  tells = rw (← answers) (step-tells s e)

  -- no number is taken back
  pub count-grows : (sharers : Sharers) → count_in sharers s ≤ count_in sharers next
  count-grows Threads =
      let (more, records, threads) = (step-grown s e).1 in
      let led : length (step s e).state.records ≡ length next.records =
      ap (λ (x : Step). length x.state.records) answers in
      omega (arith, records, led)
  count-grows Currencies = omega (arith, tells.more)

  -- a currency whose number wasn't given before is told by the reply
  pub new-told : (c : ℕ) → length s.currencies ≤ c → c < length next.currencies → makes_currency c (Answered e r) ≡ true
  new-told c above below = tells.new e c above below
