use Rattle.lot_chart.proofs.Common.{HasLayoutFor, HasSearched, Layout, Program, ap, arith, subst, sym, world_of, ◌+◌, ◌∙◌, ◌≤◌}
use Rattle.lot_chart.proofs.gathering.StretchesObserver.before.Goals as goal

pub search-requires : goal.search-requires
search-requires c =
    let (turns, first, made, (by, noted, name, stopped)) = c.requires.observed in
    subst (λ (p : Program). HasLayoutFor p c.args.self.now.above) (sym c.requires.program) noted.room

pub returns-in-Thread-clause-awaits : goal.returns-in-Thread-clause-awaits
returns-in-Thread-clause-awaits c turns first made (by, noted, name, stopped) =
    (by, noted, subst (λ what. HasSearched what (world_of c.args.system.now).state c.args.actor c.args.self.now.above c.args.self.now.count) (sym c.in-Thread.is ∙ by) tt, name, stopped)

pub returns-in-Currency-clause-awaits : goal.returns-in-Currency-clause-awaits
returns-in-Currency-clause-awaits c turns first made (by, noted, name, stopped) =
    let above = c.search.new.above in
    let room : HasLayoutFor c.args.program.now above =
    subst (λ (p : Program). HasLayoutFor p above) c.requires.program c.search.ensures.room in
    let layout = ap (λ (l : Layout). l.currencies) c.search.ensures.room in
    let within : c.currency_count-self.result ≤ above.layout.currencies + 1 =
    omega (arith, c.currency_count-self.ensures.within, layout) in (
      by,
      record { room = room; stretches_are = noted.stretches_are; few = noted.few; early = noted.early; commands_are = noted.commands_are },
      subst (λ what. HasSearched what (world_of c.args.system.now).state c.args.actor above
          c.currency_count-self.result) (sym c.in-Currency.is ∙ by)
          (record { given = c.currency_count-self.ensures.count; within = within; found = c.search.ensures.found }),
      name,
      stopped,
    )
