use Rattle.lot_kernel.proofs.Lemmas.{None, Thread, YieldsList-from_filter, YieldsList-from_first, bucket-of, bytes_eq, least-first, length, meant-named, min_from_yields_List, named-listed, names_of, no-bucket, nodes_of, none-meant, option_any, option_map_id, rules, slice_get, sym, tests, thread-named, ◌∙◌}
use Rattle.lot_kernel.proofs.names.thread_place.Goals as goal

pub returns-in_err-places : goal.returns-in_err-places
returns-in_err-places c =
    let v = c.args.index.now in
    let none = none-meant (length v.lists) c.args.name.now (λ (t : Thread). t.name) c.args.threads.now
    (no-bucket v c.args.name.now c.in_err-places.ensures) in
    search (rules, none)

pub returns : goal.returns
returns c =
    let v = c.args.index.now in
    let table = c.args.threads.now in
    let name = c.args.name.now in
    let named = option_any (λ (t : Thread). bytes_eq name t.name) in
    let (bucket, has, places) = bucket-of v name c.in_ok-places.places c.in_ok-places.ensures in
    let found = min_from_yields_List {v = λ x. x} c.filter.result c.min.result c.min.ensures.ran
    (YieldsList-from_filter _ (λ place. option_any named (slice_get table place))
    (YieldsList-from_first (λ x. x) (λ rest. rest) _ (c.filter.ensures.source ∙ sym places)) c.filter.ensures.closure
    (λ x r q k. search (rules, tests))) in
    sym (option_map_id c.min.result) ∙ found
    ∙ least-first named table None (nodes_of v bucket)
    (λ place is. named-listed v (names_of table) c.requires name bucket has place (thread-named table name place is))
    ∙ meant-named (length v.lists) name bucket (λ (t : Thread). t.name) table has
