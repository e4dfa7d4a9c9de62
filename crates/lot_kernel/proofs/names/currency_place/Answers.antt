use Rattle.lot_kernel.proofs.Lemmas.{None, YieldsList-from_filter, YieldsList-from_first, bucket-of, bytes_eq, least-first, length, meant-named, min_from_yields_List, named-listed, no-bucket, nodes_of, none-meant, option_any, option_map_id, rules, slice_get, sym, tests, ◌∙◌}
use Rattle.lot_kernel.proofs.names.currency_place.Goals as goal

pub returns-in_err-places : goal.returns-in_err-places
returns-in_err-places c =
    let v = c.args.index.now in
    let none = none-meant (length v.lists) c.args.name.now (λ x. x) c.args.currencies.now
    (no-bucket v c.args.name.now c.in_err-places.ensures) in
    search (rules, none)

pub returns : goal.returns
returns c =
    let v = c.args.index.now in
    let table = c.args.currencies.now in
    let name = c.args.name.now in
    let named = option_any (bytes_eq name) in
    let (bucket, has, places) = bucket-of v name c.in_ok-places.places c.in_ok-places.ensures in
    let found = min_from_yields_List {v = λ x. x} c.filter.result c.min.result c.min.ensures.ran
    (YieldsList-from_filter _ (λ place. option_any named (slice_get table place))
    (YieldsList-from_first (λ x. x) (λ rest. rest) _ (c.filter.ensures.source ∙ sym places)) c.filter.ensures.closure
    (λ x r q k. search (rules, tests))) in
    sym (option_map_id c.min.result) ∙ found
    ∙ least-first named table None (nodes_of v bucket) (named-listed v table c.requires name bucket has)
    ∙ meant-named (length v.lists) name bucket (λ x. x) table has
