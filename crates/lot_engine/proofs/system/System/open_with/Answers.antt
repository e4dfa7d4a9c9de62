use Rattle.lot_engine.proofs.Lemmas.{AreCounts, IsCount, ap, is_some, length, nothing-counted, opening, opening-held, replicate, rules, sizes_of, subst, sym, turns_made, [], ◌+◌, ◌∙◌, ◌≡◌, ◌≤◌}
use Rattle.lot_engine.proofs.system.System.open_with.Goals as goal

pub invariant_of-result : goal.invariant_of-result
invariant_of-result c =
    let program = c.in_ok-copy.copy in
    let state = c.in_ok-kernel.kernel.state in
    let history = c.in_ok-places.history.items in
    let places = c.in_ok-places.places in
    let generators = c.in_ok-copy.generators.items in
    let tickets = c.in_ok-copy.tickets in
    let opened = c.in_ok-places.ensures in
    let none : history ≡ [] = opened.history.none in
    let copied : program ≡ c.args.program.now = c.in_ok-copy.ensures.program in
    let limits : sizes_of c.limits.result ≡ program.limits = c.limits.ensures.limits
    ∙ ap (λ p. p.limits) (sym copied) in
    let is : state ≡ opening program.limits = ap (λ k. k.state) c.in_ok-kernel.ensures.opening ∙ ap opening limits in
    let seeded : generators ≡ program.seeds = c.in_ok-copy.ensures.seeds ∙ ap (λ p. p.seeds) (sym copied) in
    let unnamed : tickets ≡ replicate program.ticket_names 0 = c.in_ok-copy.ensures.tickets
    ∙ ap (λ p. replicate p.ticket_names 0) (sym copied) in
    let counted = subst (λ h. IsCount (turns_made program h) (length h)
    (record { turns = 0; quanta = 0; idles = 0; ticks = 0 })) (sym none) nothing-counted in
    let each =
    subst (λ h. AreCounts (turns_made program h) (length h) c.in_ok-places.counts.items) (sym none) opened.none in
    record {
      program = search (rules, copied);
      legal = λ untimed. search (rules, none);
      in_time = search (rules, none);
      held = opening-held program history state places.items generators tickets none is opened.places seeded unnamed;
      wide = c.draws_wide_numbers.ensures ∙ c.format.ensures.timed ∙ ap (λ p. is_some p.duration) (sym copied);
      generators = c.in_ok-copy.ensures.count ∙ ap (λ p. p.limits.processors) (sym copied);
      past = search (rules, none);
      spent = search (rules, none);
      counts = opened.count ∙ ap (λ p. p.limits.processors + 1) (sym copied);
      each_counted = each;
      total_counted = counted;
      threads = subst (λ p. p.limits.threads ≤ places.room) (sym copied) opened.threads;
      room = opened.history.turns;
      wakes = opened.history.wakes;
      processors = opened.history.processors ∙ ap (λ p. p.limits.processors) (sym copied);
    }
