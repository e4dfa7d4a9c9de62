-- The index of names.
use Rattle.std.specs.Prelude.{ℕ, ◌%◌, Option, Some, None, List, length, map, if◌then◌else◌, option_and_then, option_map, slice_get}
use Rattle.std.specs.Hash.FoldHasher as folding
use Rattle.std.specs.Option.{option_flatten}
use Rattle.lot_machine.specs.declared.record.Thread.{Thread}
use Rattle.lot_machine.specs.Commands.{is_no_name}
use Rattle.lot_lists.specs.NodeLists.{NodeLists}
use Rattle.lot_graph.specs.Mirrors.{Mirrors}

-- the hash of a name, as the library's maps compute it
abbrev pub hash_of : List ℕ → ℕ
hash_of name = folding.finish (folding.write folding.initial name)

-- the name's bucket among this many; none for a name without bytes
abbrev pub bucket_of : ℕ → List ℕ → Option ℕ
bucket_of buckets name = if is_no_name name then None else Some (hash_of name % buckets)

-- the bucket of the name at this place of the table, if it has one
abbrev pub bucket_at : ℕ → List (Option (List ℕ)) → ℕ → Option ℕ
bucket_at buckets names place = option_and_then (bucket_of buckets) (option_flatten (slice_get names place))

-- A place that has a name is in the list of the name's bucket. Any other place, such as that of a thread without a
-- name, is in no list.
abbrev pub IsIndexOf : NodeLists → List (Option (List ℕ)) → Type 0
IsIndexOf v names = Mirrors v (bucket_at (length v.lists) names)

-- the name of each thread, without bytes if it has no name; none for a removed thread
abbrev pub names_of : List (Option Thread) → List (Option (List ℕ))
names_of threads = map (option_map (λ t. t.name)) threads
