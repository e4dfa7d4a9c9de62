use Rattle.lot_playback.proofs.Lemmas.{Sizes, alarms_in, ap, append-nil, append_assoc, arith, console_due, earliest, earliest-both, earliest-more, flat_map, moment_of, processor_due, processors_due, range_with_len, sooner_of, sym, timer_due, ◌++◌, ◌∙◌, ◌≡◌}
use Rattle.lot_playback.proofs.clocks.Clocks.earliest.Goals as goal

pub loop-place-init : goal.loop-place-init
loop-place-init c =
    let m = moment_of c.args.system.now c.args.self.now.time c.args.self.now.processors.items
    (alarms_in c.args.alarms.now.threads.items) in
    let front = console_due m ++ timer_due c.args.program.now m in
    c.sooner_of-first.ensures
    ∙ ap (λ o. sooner_of o c.args.alarms.now.next) (c.console_due.ensures c.args.self.now.time
    c.args.self.now.processors.items (alarms_in c.args.alarms.now.threads.items))
    ∙ ap (sooner_of (earliest (console_due m))) c.requires.alarms
    ∙ sym (earliest-both (console_due m) (timer_due c.args.program.now m))
    ∙ ap earliest (sym (append-nil front))

pub loop-place-preserved : goal.loop-place-preserved
loop-place-preserved c =
    let m = moment_of c.args.system.now c.args.self.now.time c.args.self.now.processors.items
    (alarms_in c.args.alarms.now.threads.items) in
    let front = console_due m ++ timer_due c.args.program.now m in
    c.sooner_of-first-in-loop-place.ensures
    ∙ ap (λ o. sooner_of o c.processor_due-due.result) c.loop-place.invariant
    ∙ ap (sooner_of (earliest (front ++ flat_map (processor_due m) (range_with_len 1 c.loop-place.place))))
    (c.processor_due-due.ensures (alarms_in c.args.alarms.now.threads.items))
    ∙ earliest-more front (processor_due m) c.loop-place.place

pub returns : goal.returns
returns c =
    let m = moment_of c.args.system.now c.args.self.now.time c.args.self.now.processors.items
    (alarms_in c.args.alarms.now.threads.items) in
    let processors : c.limits-place-end.result.processors ≡ c.args.program.now.limits.processors =
    ap (λ (s : Sizes). s.processors) c.limits-place-end.ensures.limits in
    let all : c.loop-place.place ≡ c.args.program.now.limits.processors =
    omega (arith, c.loop-place-test.false, c.loop-place.auto.place-end, processors) in
    c.loop-place.invariant ∙ ap (λ n.
    earliest ((console_due m ++ timer_due c.args.program.now m) ++ flat_map (processor_due m) (range_with_len 1 n))) all
    ∙ ap earliest (append_assoc (console_due m) (timer_due c.args.program.now m) (processors_due c.args.program.now m))
