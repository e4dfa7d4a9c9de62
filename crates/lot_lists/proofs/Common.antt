-- The names that this crate's proofs cite, passed on from one place. Declares nothing.
pub use Rattle.std.proofs.Common.{Contains, List, None, Option, Some, add-one, ap, ap₂, arith, drop, eq-eqb, eqb, get_or, get_or-set_other, get_or-set_same, inl, inr, length, length-append, length-drop, length-set, ltb, refl, replicate, rules, set, subst, suc, sym, zero, ℕ, [], ◌++◌, ◌+◌, ◌-◌, ◌<◌, ◌^◌, ◌∙◌, ◌∷◌, ◌≡◌, ◌≢◌, ◌≤◌, ◌⊎◌}
pub use Rattle.std.proofs.lemmas.Bool.{cases_eq, cases_lt, cases_order, cond-false, cond-true, eqb-true, le-ltb, lt-ltb, ne_eqb}
pub use Rattle.std.proofs.lemmas.Grind.{get_or-set_at}
pub use Rattle.std.proofs.lemmas.List.{drop_all, drop_more, get_or-drop, get_or-map, get_or-replicate, get_or_append_left, get_or_at, get_or_default, get_or_past, get_or_push, length-map, length-replicate, length_push, same_lists}
pub use Rattle.std.proofs.lemmas.List.Edits.{get_or-remove_above, get_or-remove_below, length-remove}
pub use Rattle.std.proofs.lemmas.List.FromFn.{get_or-range_with_len, length-range_with_len}
pub use Rattle.std.proofs.lemmas.Map.Keys.{IsDistinct-from_apart}
pub use Rattle.std.proofs.lemmas.Map.Steps.{length-le_from_distinct_below}
pub use Rattle.std.proofs.lemmas.Map.Views.{Contains-from_any}
pub use Rattle.std.proofs.lemmas.Option.{get_or_from_slice_get, none-some, same_Some, slice_get-get_or, slice_get_past, slice_get_read, slice_get_within}
pub use Rattle.std.specs.List.{range_with_len, remove, slice_get}
pub use Rattle.std.specs.Option.{IfNone, IfSome, SomeIff}
pub use Rattle.lot_kept.proofs.Rewritten.{rewritten_is}
pub use Rattle.lot_lists.specs.Links.{IsHome, IsLinked, IsRing, home_at, list_at, stop, walk, walked_lists}
pub use Rattle.lot_lists.specs.NodeLists.{HasSameSize, IsConsistent, IsFree, IsListed, NodeLists, empty_lists, node_at, nodes_of, with_pushed, with_removed}
pub use Rattle.lot_lists.specs.Nodes.{IsBefore, nodes_from}
