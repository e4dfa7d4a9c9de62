use Rattle.lot_playback.proofs.Lemmas.{Answered, Answers, AreAlarms, AreCurrencies, CanFollow, HasLayoutFor, Seen, Threads, World, ap, arith, clocks_after, few-waits, get_or_default, is_idle_draw, length, life, life_change, mutex_change, mutex_wait, refusals-more, reply_change, reply_wait, subst, sym, traps-more, vec_len, waits-more, world_of, [], ◌++◌, ◌+◌, ◌||◌, ◌∙◌, ◌∷◌, ◌≡◌, ◌≤◌}
use Rattle.lot_playback.proofs.timekeeper.Timekeeper.follow.Goals as goal

pub returns-clause-same : goal.returns-clause-same
returns-clause-same c = c.follow-2.ensures.same ∙ c.follow.ensures.same

pub returns-clause-follows : goal.returns-clause-follows
returns-clause-follows c =
    let same = c.follow.ensures.same in
    let both = c.follow-2.ensures.same ∙ same in
    let e : c.len-processors.result ≡ vec_len c.args.self.now.clocks.processors = c.len-processors.ensures in
    let processors : c.len-processors.result ≡ length c.args.self.now.clocks.processors.items =
    omega (arith, e, c.args.self.now.clocks.processors.ok.0) in
    record {
      time = c.follow-3.ensures.time;
      clocks = c.follow-3.ensures.clocks c.args.event.now
          ∙ ap (λ (x : Seen). clocks_after (world_of x).state c.args.self.now.clocks.processors.items
          (record { time = c.args.time; actor = c.args.actor }) (is_idle_draw (Answered c.args.event.now c.args.reply)))
          both;
      alarms = λ m at count asleep. c.follow-4.ensures.after m at (count ∙ sym processors)
          (λ some few. asleep some (subst (λ n. c.args.actor ≤ n) processors few));
      refused = ap (λ b. c.args.self.now.has_refused || b) c.is_refusal.ensures;
      sleeping = subst (λ n. AreAlarms n c.follow-4.new.self) e c.follow-4.ensures.are;
      room = λ program fits. record {
        clocks = omega (arith, fits.clocks, c.follow-3.ensures.count, c.args.self.now.clocks.processors.ok.0, c.follow-3.new.self.processors.ok.0);
        mutexes = omega (arith, fits.mutexes, c.follow-5.ensures.count, c.args.self.now.mutexes.threads.ok.0, c.follow-5.new.self.threads.ok.0);
        replies = omega (arith, fits.replies, c.follow-6.ensures.count, c.args.self.now.replies.threads.ok.0, c.follow-6.new.self.threads.ok.0);
        lives = omega (arith, fits.lives, c.follow-7.ensures.count, c.args.self.now.lives.threads.ok.0, c.follow-7.new.self.threads.ok.0);
        ready = c.queue.ensures.queued.count ∙ fits.ready;
        dues = omega
            (arith, fits.dues, c.follow.ensures.count, c.args.self.now.dues.places.ok.0, c.follow.new.self.places.ok.0);
        refused_traps = (c.follow-8.ensures.counted c.args.event.now).count ∙ fits.refused_traps;
        alarms = omega (arith, fits.alarms, c.follow-4.ensures.count, c.args.self.now.alarms.threads.ok.0, c.follow-4.new.self.threads.ok.0);
        ticks = c.follow-2.ensures.ticks ∙ fits.ticks;
        currency_dues = omega (arith, fits.currency_dues, c.follow-2.ensures.dues, c.args.self.now.currencies.dues.places.ok.0, c.follow-2.new.self.dues.places.ok.0);
        above = subst (HasLayoutFor program) (sym c.follow-2.ensures.above) fits.above;
      };
      followed = λ done n turn told was. record {
        idled = c.follow-3.ensures.idled n was.idled;
        mutexes = c.follow-5.ensures.exact mutex_change done n turn told.time
            (ap mutex_wait told.answer ∙ sym c.mutex_wait.ensures) was.mutexes;
        replies = c.follow-6.ensures.exact reply_change done n turn told.time
            (ap reply_wait told.answer ∙ sym (c.reply_wait.ensures c.args.event.now)) was.replies;
        lives = c.follow-7.ensures.exact life_change done n turn told.time
            (ap life told.answer ∙ sym (c.life.ensures c.args.event.now)) was.lives;
        refused_traps = traps-more done n turn (Answered c.args.event.now c.args.reply)
            c.args.self.now.refused_traps.threads.items c.follow-8.new.self.threads.items told.answer
            (c.follow-8.ensures.counted c.args.event.now) was.refused_traps;
        refused = omega (arith, refusals-more done turn c.args.event.now c.args.reply told.answer, c.refusals_in.ensures.refusals, was.refused);
        few = omega (arith, was.few, c.refusals_in.ensures.few);
      };
      dues = λ first before done n turn told was. record {
        ready = waits-more done n before (world_of c.args.system.now).state turn c.args.time
            (Answered c.args.event.now c.args.reply) c.args.self.now.ready.threads.items c.queue.new.self.threads.items
            told.time (omega (arith, c.ranges.time.fits)) told.answer
            (ap (λ (w : World). w.state) told.world) c.queue.ensures.queued was.dues.ready;
        dues = c.follow.ensures.due Threads first before done n turn was.few told.time told.answer told.world
            was.answers was.dues.dues;
        currencies = subst
            (λ (x : Seen). AreCurrencies first (done ++ turn ∷ []) (n + 1) (world_of x).state c.follow-2.new.self) same
            (c.follow-2.ensures.exact first before done n turn was.few told.time told.answer (told.world ∙ ap world_of
            (sym same)) (subst (λ (x : Seen). Answers before c.args.event.now c.args.reply (world_of x).state)
            (sym same) was.answers) was.found was.dues.currencies);
      };
    }

pub queue-requires : goal.queue-requires
queue-requires c =
    let (first, before, done, n, was) = c.requires.can.dues in
    record { count = c.requires.can.threads; few = few-waits done n before c.args.self.now.ready.threads.items was.few was.dues.ready; answers = (before, was.answers, was.dues.ready.now) }

pub follow-requires : goal.follow-requires
follow-requires c =
    let (first, before, done, n, was) = c.requires.can.dues in
    record { bounds = c.requires.can.bounds; few = (Threads, first, before, done, n, was.few, was.dues.dues, was.answers) }

pub follow-requires-2 : goal.follow-requires-2
follow-requires-2 c =
    let (first, before, done, n, was) = c.requires.can.dues in
    rw c.follow.ensures.same
    (record { bounds = c.requires.can.bounds; room = c.requires.can.currencies; few = (first, before, done, n, was.few, was.dues.currencies, was.answers, was.found) })

pub follow-requires-3-clause-few : goal.follow-requires-3-clause-few
follow-requires-3-clause-few c = c.requires.can.processors

pub follow-requires-3-clause-idled : goal.follow-requires-3-clause-idled
follow-requires-3-clause-idled c = let (done, n, room, was) = c.requires.can.followed in (n, room, was.idled)

pub follow-requires-4-clause-processors : goal.follow-requires-4-clause-processors
follow-requires-4-clause-processors c =
    let e : c.len-processors.result ≡ vec_len c.args.self.now.clocks.processors = c.len-processors.ensures in
    subst (λ n. n ≤ 64) (sym e) c.requires.can.processors

pub follow-requires-4-clause-are : goal.follow-requires-4-clause-are
follow-requires-4-clause-are c =
    let e : c.len-processors.result ≡ vec_len c.args.self.now.clocks.processors = c.len-processors.ensures in
    subst (λ n. AreAlarms n c.args.self.now.alarms) (sym e) c.requires.can.sleeping

pub follow-requires-4-clause-can : goal.follow-requires-4-clause-can
follow-requires-4-clause-can c =
    let e : c.len-processors.result ≡ vec_len c.args.self.now.clocks.processors = c.len-processors.ensures in
    subst (λ n. CanFollow c.args.actor n (length c.args.self.now.alarms.threads.items) c.args.sleeper)
    (sym e) c.requires.can.sleeper

pub follow-requires-5 : goal.follow-requires-5
follow-requires-5 c = let (done, n, room, was) = c.requires.can.followed in
    record { bounded = (mutex_change, done, n, room, was.mutexes) }

pub follow-requires-6 : goal.follow-requires-6
follow-requires-6 c = let (done, n, room, was) = c.requires.can.followed in
    record { bounded = (reply_change, done, n, room, was.replies) }

pub follow-requires-7 : goal.follow-requires-7
follow-requires-7 c = let (done, n, room, was) = c.requires.can.followed in
    record { bounded = (life_change, done, n, room, was.lives) }

pub follow-requires-8 : goal.follow-requires-8
follow-requires-8 c =
    let (done, n, room, was) = c.requires.can.followed in
    record { few = λ k d below. omega (arith, get_or_default c.args.self.now.refused_traps.threads.items k d 0 below, (was.refused_traps k below).few, room) }

pub overflow_add-self : goal.overflow_add-self
overflow_add-self c = let (done, n, room, was) = c.requires.can.followed in
    omega (arith, was.few, room, c.refusals_in.ensures.few)
