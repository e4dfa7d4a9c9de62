use Rattle.lot_system.proofs.Lemmas.{HasMade, all-are, IsInOrder, IsOver, Seen, ap, over-at-end, program_turns, stopped-at-end, stopped_in, subst, sym, ◌||◌, ◌∙◌}
use Rattle.lot_system.proofs.seeds.add_playback.Goals as goal

pub add_play-requires-clause-over : goal.add_play-requires-clause-over
add_play-requires-clause-over c =
    let parts = c.into_parts-system.ensures in
    over-at-end c.note_turns.new.playback c.into_parts-system.result.0 c.into_parts-system.result.1 parts.system
    parts.made parts.order c.note_turns.ensures.ended

pub note_ended-requires-clause-order : goal.note_ended-requires-clause-order
note_ended-requires-clause-order c =
    subst (λ (s : Seen). IsInOrder s c.into_parts-system.result.1)
    (sym c.add_play.ensures.same) c.into_parts-system.ensures.order

pub returns-clause-played : goal.returns-clause-played
returns-clause-played c =
    let program = c.args.program.now in
    let order = c.into_parts-system.result.1 in
    let seen = c.into_parts-system.result.0 in
    let parts = c.into_parts-system.ensures in
    let has : HasMade program (program_turns program) seen =
    subst (HasMade program (program_turns program)) (sym parts.system) c.note_turns.ensures.made in
    let over : IsOver seen order =
    over-at-end c.note_turns.new.playback seen order parts.system parts.made parts.order c.note_turns.ensures.ended in
    all-are program seen has order c.args.all.now c.add_play.new.all over c.add_play.ensures.added

pub returns-clause-stopped : goal.returns-clause-stopped
returns-clause-stopped c =
    let program = c.args.program.now in
    let parts = c.into_parts-system.ensures in
    let seen = c.into_parts-system.result.0 in
    let order = c.into_parts-system.result.1 in
    let at = stopped-at-end program c.note_turns.new.playback seen order c.note_turns.ensures.made.program_is
    parts.system parts.made parts.order c.note_turns.ensures.ended in
    c.note_ended.ensures
    ∙ ap (λ (s : Seen). c.note_turns.new.warnings.stopped || stopped_in program s order) c.add_play.ensures.same
    ∙ ap (λ b. b || stopped_in program seen order) c.note_turns.ensures.stopped
    ∙ ap (λ b. c.args.warnings.now.stopped || b) at
