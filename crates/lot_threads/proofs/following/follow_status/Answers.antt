use Rattle.lot_threads.proofs.Common.{Some, ap, inl, is_live_status, lend-kept, lend_of, number-kept, refl, rules, sizes_of, sym, ◌∙◌, ◌≡◌}
use Rattle.lot_threads.proofs.following.follow_status.Goals as goal

pub returns-else-ne : goal.returns-else-ne
returns-else-ne c =
    let same : c.lend_of.result ≡ c.lend_of-lend.result = search rules in
    let alive : c.is_live.result ≡ c.is_live-live.result = search rules in
    record {
      follows = record {
        now = lend-kept c.args.graph.now.now c.args.thread (lend_of (sizes_of c.args.limits.now) c.args.now)
            (c.requires.lent ∙ ap Some (sym c.lend_of.ensures ∙ same ∙ c.lend_of-lend.ensures));
        live = sym (number-kept c.args.graph.now.live c.args.thread (is_live_status c.args.now)
            (c.requires.lived ∙ ap Some (sym c.is_live.ensures ∙ alive ∙ c.is_live-live.ensures)));
        known = refl;
        kept = λ node stale. stale;
        reached = λ node stale. inl stale;
      };
    }
