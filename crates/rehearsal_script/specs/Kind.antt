-- Of which kind a line is, by its word.
use Rattle.std.specs.Prelude.{ℕ, List, [], slice_index_or, Option, Some, None, if◌then◌else◌, codes}
use Rattle.std.specs.Option.{option_or}
use Rattle.std.specs.Str.{bytes_eq}
use Rattle.rehearsal_script.specs.declared.kind.Kind.{Kind}
use Rattle.rehearsal_script.specs.declared.kind.Kind.TheVariants.{Host, Tools, Limits, Book, Post, Get, Delete, Turn, Archive, Crash, Fail, Deliver, Repeat, Lose}

abbrev pub kind_by_first : List ℕ → Option Kind
kind_by_first word =
    if bytes_eq word (codes "host") then Some Host
    else if bytes_eq word (codes "tools") then Some Tools
    else if bytes_eq word (codes "limits") then Some Limits
    else if bytes_eq word (codes "lose") then Some Lose
    else None

abbrev pub kind_by_second : List ℕ → Option Kind
kind_by_second word =
    if bytes_eq word (codes "deliver") then Some Deliver
    else if bytes_eq word (codes "repeat") then Some Repeat
    else None

abbrev pub kind_by_third : List ℕ → Option Kind
kind_by_third word =
    if bytes_eq word (codes "book") then Some Book
    else if bytes_eq word (codes "post") then Some Post
    else if bytes_eq word (codes "get") then Some Get
    else if bytes_eq word (codes "delete") then Some Delete
    else if bytes_eq word (codes "turn") then Some Turn
    else if bytes_eq word (codes "archive") then Some Archive
    else if bytes_eq word (codes "crash") then Some Crash
    else if bytes_eq word (codes "fail") then Some Fail
    else None

-- by the first field, or else the third, or else the second
unfoldable pub kind_of : List (List ℕ) → Option Kind
kind_of fields =
    option_or (option_or (kind_by_first (slice_index_or fields 0 [])) (kind_by_third (slice_index_or fields 2 []))) (kind_by_second (slice_index_or fields 1 []))
