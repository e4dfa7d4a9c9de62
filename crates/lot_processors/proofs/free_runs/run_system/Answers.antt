-- The seats were dealt by an empty system. They made all their turns, which are those of the history; or a fault
-- stopped one first.
use Rattle.lot_processors.proofs.Lemmas.{AllMade, IsLegal, Setting, ap, fault_in, free_turns, has_others, inl, inr, still_in_order, subst, sym, was_stopped, ◌∙◌, ◌≡◌, ◌≤◌}
use Rattle.lot_processors.proofs.free_runs.run_system.Goals as goal

pub returns-in-Ok-close-clause-history : goal.returns-in-Ok-close-clause-history
returns-in-Ok-close-clause-history g c =
    let program = c.args.program.now in
    let closed = c.in-Ok-close.system in
    let opened = c.in-Ok.ensures.station in
    let setting = c.in-Ok-close.ensures.setting ∙ opened ∙ c.requires.setting in
    let made = subst (λ (s : Setting). AllMade s program c.in-Ok.seats.items c.run_all_of.new.seats.items) opened
    c.in_default-run_all_of.ensures.ok in
    let last : program.limits.processors ≡ c.in-Ok.station.program.limits.processors =
    ap (λ (s : Setting). s.program.limits.processors) (sym (opened ∙ c.requires.setting)) in
    record {
      legal = subst (λ (s : Setting). IsLegal s.program s.room closed.history) setting c.in-Ok-close.ensures.legal;
      turns = λ actor there. free_turns program c.args.system closed c.in-Ok.seats.items c.run_all_of.new.seats.items
          c.in-Ok.station.program.limits.processors c.requires.empty
          (ap (λ (s : Setting). s.program.limits.processors) (sym opened)) c.in-Ok.ensures.seats made
          c.in-Ok-close.ensures.order c.in-Ok-close.ensures.counts actor
          (subst (λ p. actor ≤ p) last there);
    }

pub returns-in-Err-clause-fault : goal.returns-in-Err-clause-fault
returns-in-Err-clause-fault g c =
    let opened = c.in-Ok.ensures.station in
    was_stopped c.args.program.now c.args.system c.requires.setting c.requires.empty c.in-Ok.seats.items
    c.run_all_of.new.seats.items c.in-Ok.ensures.seats
    c.in-Ok.station (fault_in c.in-Err.fault) opened c.in-Err.ensures.err

pub returns-clause-fault : goal.returns-clause-fault
returns-clause-fault g c =
    let program = c.args.program.now in
    let seats = c.in-Ok.seats.items in
    let after = c.run_all_of.new.seats.items in
    let opened = c.in-Ok.ensures.station in
    let told = c.in_default-run_all_of.ensures in
    elim c.in-Err-close.ensures.err [
      | inl missing ↦ absurd (missing.1 (still_in_order program c.args.system c.requires.setting c.requires.empty seats
          after c.in-Ok.ensures.seats c.in-Ok.station opened told.ok told.count))
      | inr differ ↦ has_others program c.args.system c.requires.setting c.requires.empty seats after
          c.in-Ok.ensures.seats c.in-Ok.station opened told.ok told.count differ.0 differ.2 differ.3 differ.5
    ]
