use Rattle.std.proofs.Common.{◌≡◌, map, take}
use Rattle.serde_json.specs.View.{view}
use Rattle.api_reply.specs.Replies.{window_data}
use Rattle.api_reply.proofs.told.write_windows.Given as goal

-- the windows so far
abbrev pub invariant-loop-window : goal.invariant-loop-window
invariant-loop-window l = map view l.values.items ≡ map window_data (take l.window-index l.windows)
