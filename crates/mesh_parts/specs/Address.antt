-- Where the API of a host is found.
use Rattle.std.specs.Prelude.{ℕ, List, Bool, false, ◌&&◌, not, is_some, None, Ok, Err, bytes_eq, codes}
use Rattle.url.specs.Input.{is_empty}
use Rattle.url.specs.Parser.{Parsed, parse_url}
use Rattle.url.specs.Parts.{Parts, has_host}

-- a URL of the scheme `http` with a host, and without user, password, query and fragment
abbrev pub is_plain : Parts → Bool
is_plain url =
    (bytes_eq url.scheme (codes "http") && has_host url) && ((is_empty url.username && is_empty url.password) && (not (is_some url.query) && not (is_some url.fragment)))

unfoldable pub is_host_url : List ℕ → Bool
is_host_url text = plain (parse_url None text)
  where
    plain : Parsed Parts → Bool
    plain (Ok url) = is_plain url
    plain (Err fault) = false
