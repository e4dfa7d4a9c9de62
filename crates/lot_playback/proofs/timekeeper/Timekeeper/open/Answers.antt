use Rattle.lot_playback.proofs.Lemmas.{Clock, HasLayoutFor, HaveIdled, None, Program, Sizes, ap, arith, false, if-ok-none, length, length-replicate, life_change, mutex_change, none-idled, none-sleeping, refl, replicate, reply_change, subst, sym, ◌∙◌, ◌≡◌}
use Rattle.lot_playback.proofs.timekeeper.Timekeeper.open.Goals as goal

pub returns-in_err-clocks-clause-opened : goal.returns-in_err-clocks-clause-opened
returns-in_err-clocks-clause-opened c = if-ok-none c.from_residual.result _ c.from_residual.ensures.0

pub returns-in_err-mutexes-clause-opened : goal.returns-in_err-mutexes-clause-opened
returns-in_err-mutexes-clause-opened c =
    if-ok-none c.from_residual-in_err-mutexes.result _ c.from_residual-in_err-mutexes.ensures.0

pub returns-in_err-lives-clause-opened : goal.returns-in_err-lives-clause-opened
returns-in_err-lives-clause-opened c =
    if-ok-none c.from_residual-in_err-lives.result _ c.from_residual-in_err-lives.ensures.0

pub returns-in_err-dues-clause-opened : goal.returns-in_err-dues-clause-opened
returns-in_err-dues-clause-opened c =
    if-ok-none c.from_residual-in_err-dues.result _ c.from_residual-in_err-dues.ensures.0

pub returns-clause-opened : goal.returns-clause-opened
returns-clause-opened c =
    let limits = c.limits-limits.ensures.limits in
    let legal = c.limits-limits.ensures.legal.limits in
    let sizes = c.args.program.now.limits in
    let clock : Clock = record { time = 0; waits = false; idle = 0 } in
    let processors : c.limits-limits.result.processors ≡ sizes.processors = ap (λ (s : Sizes). s.processors) limits in
    let threads : c.limits-limits.result.threads ≡ sizes.threads = ap (λ (s : Sizes). s.threads) limits in
    let currencies : c.limits-limits.result.currencies ≡ sizes.currencies = ap (λ (s : Sizes). s.currencies) limits in
    let (time, clocks, nobody, highest, next) = c.in_ok-clocks.ensures.opened in
    let (dues, ticks, currency_dues, above, refused_traps) = c.in_ok-dues.ensures.count in
    let none = c.in_ok-dues.ensures.none sizes legal in
    record {
      time = time;
      clocks = clocks ∙ ap (λ (s : Sizes). replicate s.processors clock) limits;
      alarms = nobody ∙ ap (λ (s : Sizes). replicate s.threads None) limits;
      refused = refl;
      sleeping = none-sleeping sizes.processors c.in_ok-clocks.alarms c.limits-limits.result.threads
          (omega (arith, threads, legal.of_threads.1)) nobody highest next;
      room = λ same. record {
        clocks = ap length clocks ∙ length-replicate c.limits-limits.result.processors clock ∙ processors;
        mutexes = omega (arith, threads, c.in_ok-mutexes.ensures.count.0, c.in_ok-mutexes.mutexes.threads.ok.0);
        replies = omega (arith, threads, c.in_ok-mutexes.ensures.count.1, c.in_ok-mutexes.replies.threads.ok.0);
        lives = omega (arith, threads, c.in_ok-lives.ensures.count.0, c.in_ok-lives.lives.threads.ok.0);
        refused_traps = omega (arith, threads, refused_traps, c.in_ok-dues.refused_traps.threads.ok.0);
        ready = omega (arith, threads, c.in_ok-lives.ensures.count.1, c.in_ok-lives.ready.threads.ok.0);
        dues = omega (arith, threads, dues, c.in_ok-dues.dues.places.ok.0);
        alarms = ap length nobody ∙ length-replicate c.limits-limits.result.threads None ∙ threads;
        ticks = omega (arith, currencies, ticks, c.in_ok-dues.currencies.ticks.ok.0);
        currency_dues = omega (arith, currencies, currency_dues, c.in_ok-dues.currencies.dues.places.ok.0);
        above = subst (λ (p : Program). HasLayoutFor p c.in_ok-dues.currencies.above) same above;
      };
      followed = record {
        idled = subst (HaveIdled 0) (sym clocks) (none-idled c.limits-limits.result.processors);
        mutexes = (c.in_ok-mutexes.ensures.none mutex_change).0;
        replies = (c.in_ok-mutexes.ensures.none reply_change).1;
        lives = (c.in_ok-lives.ensures.none life_change).0;
        refused_traps = none.2;
        refused = refl;
        few = omega arith;
      };
      dues = record { ready = c.in_ok-lives.ensures.ready sizes; dues = none.0; currencies = none.1 };
    }
