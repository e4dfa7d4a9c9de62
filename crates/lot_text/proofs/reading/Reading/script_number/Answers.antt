use Rattle.lot_text.proofs.ScriptLemmas.{number_named-found, number_named-none}
use Rattle.lot_text.proofs.reading.Reading.script_number.Goals as goal

pub returns-in-Some : goal.returns-in-Some
returns-in-Some c = rw (← c.self.view_is) (number_named-found c.args.name.now c.self.inside.scripts.items
    c.in-Some.place (rw (← c.as_slice.ensures.value) c.in-Some.ensures.place))

pub returns-in-None : goal.returns-in-None
returns-in-None c = rw (← c.self.view_is) (number_named-none c.args.name.now c.self.inside.scripts.items
    (rw (← c.as_slice.ensures.value) c.in-None.ensures.place))
