-- The names and the lemmas that the proofs of this crate's functions cite, passed on from one place. Declares nothing.
pub use Rattle.lot_lists.proofs.Common.{None, ap, arith, get_or-set_same, home_at, length, length-set, nodes_from, nodes_of, refl, replicate, rewritten_is, rules, set, sym, ℕ, ◌+◌, ◌<◌, ◌^◌, ◌∙◌, ◌∷◌, ◌≡◌}
pub use Rattle.lot_lists.proofs.Fields.{closed, closed_view, consistent_held, consistent_seen, empty_held, first_held, found_held, free_if_none, free_seen, held_by, home_read, last_held, last_index_held, listed_held, listed_in_range, listed_seen, neighbours_held, opened, place_of, pushed_at, pushed_held, removed_held, size_seen}
pub use Rattle.lot_lists.proofs.Walks.{next_from}
