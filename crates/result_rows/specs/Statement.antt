-- The statements over the table of results, as texts.
use Rattle.std.specs.Prelude.{ℕ, List, codes}

-- makes the table, where it isn't there
unfoldable pub create_text : List ℕ
create_text = codes "CREATE TABLE IF NOT EXISTS result (id TEXT PRIMARY KEY NOT NULL, since INTEGER NOT NULL, latest INTEGER NOT NULL, good INTEGER NOT NULL, body TEXT NOT NULL) STRICT"

-- puts a result; an id that is there keeps its `since`
unfoldable pub put_text : List ℕ
put_text = codes "INSERT INTO result (id, since, latest, good, body) VALUES (?1, ?2, ?2, ?3, ?4) ON CONFLICT(id) DO UPDATE SET latest = excluded.latest, good = excluded.good, body = excluded.body"

-- finds the row of an id
unfoldable pub get_text : List ℕ
get_text = codes "SELECT id, since, latest, good, body FROM result WHERE id = ?1"

-- finds the first rows above an id
unfoldable pub list_text : List ℕ
list_text = codes "SELECT id, since, latest, good, body FROM result WHERE id > ?1 ORDER BY id LIMIT ?2"

-- shows each row
unfoldable pub all_text : List ℕ
all_text = codes "SELECT id, since, latest, good, body FROM result"
