-- What files in memory hold, and what is left of the one that is read.
use Rattle.std.specs.Prelude.{ℕ, List, [], Option, Some, None, fold, map, drop, if◌then◌else◌}
use Rattle.std.specs.List.{slice_index_or}
use Rattle.std.specs.Str.{bytes_eq}
use Rattle.mp_host.specs.declared.files.NamedFile.{NamedFile}

-- the content of the last file of this name
abbrev pub content_of : List NamedFile → List ℕ → Option (List ℕ)
content_of files name = fold (λ found file. if bytes_eq file.name name then Some file.bytes else found) None files

-- the content of the file at a place, and nothing without a file
abbrev pub content_at : List NamedFile → Option ℕ → List ℕ
content_at files None = []
content_at files (Some place) = slice_index_or (map (λ file. file.bytes) files) place []

-- what was not yet read of the file at a place
abbrev pub unread : List NamedFile → Option ℕ → ℕ → List ℕ
unread files open_place at = drop at (content_at files open_place)
