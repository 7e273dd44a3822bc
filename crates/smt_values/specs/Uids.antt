-- What names an entity.
use Rattle.std.specs.Prelude.{ℕ, Bool, ◌&&◌, List, bytes_eq}

-- the uid of an entity: the bytes of its type's name, and those of its id
abbrev pub Uid : Type 0
Uid = List ℕ × List ℕ

-- whether two uids have the same type and the same id
abbrev pub same_uid : Uid → Uid → Bool
same_uid a b = bytes_eq a.0 b.0 && bytes_eq a.1 b.1
