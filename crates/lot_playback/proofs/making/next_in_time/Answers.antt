use Rattle.lot_playback.proofs.Lemmas.{IfNone, None, Option, Program, Some, ap, arith, full-next, length, moment_in, next_due, none-made, none-next, refl, rules, sym, time-next, time-none, ◌<◌, ◌∙◌, ◌≡◌, ◌≤◌}
use Rattle.lot_playback.proofs.making.next_in_time.Goals as goal

always : {T : Type 0} {P : Type 0} (o : Option T) → P → IfNone o P
always None fact = fact
always (Some x) fact = tt

pub returns-then-is_full-clause-none : goal.returns-then-is_full-clause-none
returns-then-is_full-clause-none c =
    let seen = c.args.system.now in
    let timekeeper = c.args.timekeeper.now in
    let is = c.requires.there.followed in
    let full : seen.setting.room ≤ length seen.history = search rules in
    time-none seen timekeeper c.requires.there (none-next seen.setting.program seen timekeeper is
    (full-next seen.setting.program seen timekeeper is (omega (arith, full, is.room_is))))

pub returns-in_err-due-clause-none : goal.returns-in_err-due-clause-none
returns-in_err-due-clause-none c =
    let seen = c.args.system.now in
    let timekeeper = c.args.timekeeper.now in
    let program = seen.setting.program in
    let none : next_due program (moment_in seen timekeeper) ≡ None =
    ap (λ (p : Program). next_due p (moment_in seen timekeeper)) c.requires.program ∙ sym c.in_err-due.ensures.due in
    always c.from_residual.result (time-none seen timekeeper c.requires.there (none-next program seen timekeeper
    c.requires.there.followed (none-made program _ (moment_in seen timekeeper) none)))

pub returns-clause-next : goal.returns-clause-next
returns-clause-next c =
    let seen = c.args.system.now in
    let timekeeper = c.args.timekeeper.now in
    let due = c.in_ok-due.due in
    let room : length seen.history < seen.setting.room = search rules in
    let first : next_due seen.setting.program (moment_in seen timekeeper) ≡ Some due =
    ap (λ (p : Program). next_due p (moment_in seen timekeeper)) c.requires.program ∙ sym c.in_ok-due.ensures.due in
    time-next seen timekeeper c.requires.there due (record { time = Some due.time; actor = due.actor })
    (record { room = room; first = first; within = c.in_ok-due.ensures.within }) refl refl
