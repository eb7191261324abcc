-- Standard output that is a file which is read.
use Rattle.std.specs.Prelude.{◌≡◌, ◌≢◌, ℕ, Bool, true, false, List, Option, Some, None, IfSome, bytes_eq, codes, if◌then◌else◌}
use Rattle.std.specs.List.{All, Any}
use Rattle.binlog_following.specs.Files.{is_same}
use Rattle.binlog_following.specs.declared.log_files.FileId.{FileId}

-- The path of the file of a name: that of standard input is found by its own.
abbrev pub path_of : List ℕ → List ℕ
path_of name = if bytes_eq name (codes "-") then codes "/dev/stdin" else name

-- What was found under a path is this file.
abbrev pub is_file : (found : Option FileId) (file : FileId) → Bool
is_file None file = false
is_file (Some found) file = is_same found file

-- `has_named` says which files were found under a path.
module _ (has_named : List ℕ → Option FileId → Type 0) where
  -- It was asked whether a name is that of this file.
  pub record Asks (file : FileId) (name : List ℕ) (answer : Bool) : Type 0 where
    pub found : Option FileId
    pub named : has_named (path_of name) found
    pub is : answer ≡ is_file found file

  -- Standard output is a file with bytes, and one of the names is its name.
  pub record IsOneOf {N : Type 0} (name_of : N → List ℕ) (names : List N) : Type 0 where
    pub output : FileId
    pub named : has_named (codes "/dev/stdout") (Some output)
    pub filled : output.len ≢ 0
    pub one : Any (λ name. Asks output (name_of name) true) names

  -- Standard output is no file with bytes, or none of the names is its name.
  pub record IsApart {N : Type 0} (name_of : N → List ℕ) (names : List N) : Type 0 where
    pub output : Option FileId
    pub named : has_named (codes "/dev/stdout") output
    pub none : IfSome output (λ file. file.len ≢ 0 → All (λ name. Asks file (name_of name) false) names)
