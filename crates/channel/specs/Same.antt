-- Which letters are equal.
use Rattle.std.specs.Prelude.{Bool, ◌&&◌, ◌==◌}
use Rattle.std.specs.Str.{bytes_eq}
use Rattle.channel.specs.declared.Letter.{Letter}

-- all fields of one are those of the other
abbrev pub same_letters : Letter → Letter → Bool
same_letters a b = a.label == b.label && (a.name == b.name && (a.place == b.place && bytes_eq a.turns b.turns))
