-- How many places the memories of a room have.
use Rattle.std.specs.Prelude.{ℕ, ◌+◌, ◌/◌, min, vec_len}
use Rattle.register.specs.Limits.{most_lists, most_entries}
use Rattle.register.specs.Questions.{Sizes}
use Rattle.service.specs.declared.room.Room.{Room}

abbrev pub sizes_of : Room → Sizes
sizes_of room = record { keys = vec_len room.keys; rows = vec_len room.rows; payloads = vec_len room.payloads }

-- room for every tree of so many lists and entries that an index takes
abbrev pub sizes_for : (lists entries : ℕ) → Sizes
sizes_for lists entries =
    let payloads = min entries most_entries in
    let keys = payloads + payloads / 3 in
    record { keys = keys; rows = keys + min lists most_lists; payloads = payloads }
