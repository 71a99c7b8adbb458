-- The numbers of the specification, each once, with its unit. Definitions cite these and not the constants of the code,
-- so that a constant that is changed in the code alone fails the check.
use Rattle.std.specs.Prelude.{ℕ}

-- ---- moments and lengths

-- the last moment that is kept, 2100-01-01T00:00:00Z: in seconds since 1970-01-01T00:00:00Z
abbrev pub greatest_moment : ℕ
greatest_moment = 4_102_444_800

-- the greatest length, ten years of 365 days: in seconds
abbrev pub greatest_length : ℕ
greatest_length = 315_360_000

-- ---- the life of a run, all in seconds

-- how long after it was asked about or accepted a run is held, where nothing more is heard
abbrev pub hold : ℕ
hold = 60

-- how long after its start a run may still start, and after its end still clean up
abbrev pub grace : ℕ
grace = 15

-- how long before its start a run is on deck, and can't be preempted any more
abbrev pub on_deck : ℕ
on_deck = 10

-- how far ahead of the present moment a start is planned at least
abbrev pub plan_lead : ℕ
plan_lead = 5

-- how far ahead of the present moment a start is planned at most
abbrev pub horizon : ℕ
horizon = 86_400

-- how long after an attempt was closed the next one of the same number is made
abbrev pub retry_wait : ℕ
retry_wait = 30

-- how long after its end a run's missing results are waited for
abbrev pub result_wait : ℕ
result_wait = 120

-- how long after its last moment a row that is done is kept
abbrev pub keeping : ℕ
keeping = 604_800

-- ---- how many

-- attempts at one number of a schedule: 0 to 7
abbrev pub most_attempts : ℕ
most_attempts = 8

-- hosts that take part in one run, the lead among them
abbrev pub most_participants : ℕ
most_participants = 8

-- tasks of one host
abbrev pub most_tasks : ℕ
most_tasks = 2_000

-- rows of runs of one host
abbrev pub most_rows : ℕ
most_rows = 50_000

-- intervals in each tier of an answer to a question for free starts
abbrev pub most_intervals : ℕ
most_intervals = 128

-- changes that one turn makes
abbrev pub most_changes : ℕ
most_changes = 64

-- orders that one listing gives
abbrev pub most_orders : ℕ
most_orders = 64

-- texts of limits that one host keeps, one after another
abbrev pub most_epochs : ℕ
most_epochs = 256

-- hosts in a script
abbrev pub most_script_hosts : ℕ
most_script_hosts = 16

-- fields in the head of a message of HTTP
abbrev pub most_head_fields : ℕ
most_head_fields = 64

-- arrays and objects of a JSON text that are open at one place
abbrev pub most_json_depth : ℕ
most_json_depth = 64

-- ---- how many bytes

-- of all results that one host's rows keep; a host that has so many accepts no more runs
abbrev pub most_kept_bytes : ℕ
most_kept_bytes = 268_435_456

-- of one participant's result
abbrev pub most_result_bytes : ℕ
most_result_bytes = 65_536

-- of a text of limits that a host takes into its book
abbrev pub most_limits_bytes : ℕ
most_limits_bytes = 1_048_576

-- of the head of a request or response
abbrev pub most_head_bytes : ℕ
most_head_bytes = 16_384

-- of a request's body
abbrev pub most_request_bytes : ℕ
most_request_bytes = 1_048_576

-- of the standard input, and of one connection's input
abbrev pub most_input_bytes : ℕ
most_input_bytes = 67_108_864
