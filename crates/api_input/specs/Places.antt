-- What a path names, with the identifiers in it read.
use Rattle.std.specs.List.{list_all, slice_split}
use Rattle.std.specs.Prelude.{◌&&◌, ◌==◌, Bool, List, None, Option, Some, if◌then◌else◌, length, nat_le, nat_lt, option_and_then, option_map, ℕ}
use Rattle.ps_time.specs.Id.{id_of_text}
use Rattle.ps_time.specs.Numbers.{most_head_bytes}
use Rattle.ps_time.specs.declared.id.Id.{Id}
use Rattle.ps_time.specs.declared.id.Id.TheVariants.{Task as task_id, Run as run_id}
use Rattle.ps_time.specs.declared.key.RunKey.{RunKey}
use Rattle.api_input.specs.Routes.{part, route_of}
use Rattle.api_input.specs.declared.place.Place.{Place}
use Rattle.api_input.specs.declared.place.Place.TheVariants.{Public, Peer}
use Rattle.api_input.specs.declared.place.PeerPlace.TheVariants as peer
use Rattle.api_input.specs.declared.place.PublicPlace.TheVariants as public
use Rattle.api_input.specs.declared.place.Target.{Target}
use Rattle.api_input.specs.declared.route.Found.{Found}
use Rattle.api_input.specs.declared.route.Route.{Route}
use Rattle.api_input.specs.declared.route.Route.TheVariants as route

-- ---- paths
abbrev pub is_ascii_byte : ℕ → Bool
is_ascii_byte b = nat_lt b 128

-- no head has room for a longer one
abbrev pub is_plain : List ℕ → Bool
is_plain path = nat_le (length path) most_head_bytes && list_all is_ascii_byte path

-- ---- identifiers
-- the serial of a task of this host
abbrev pub own_serial : ℕ → Option Id → Option ℕ
own_serial self (Some (task_id lead task)) = if lead == self then Some task else None
own_serial self _ = None

abbrev pub serial_in : ℕ → List ℕ → Option ℕ
serial_in self text = own_serial self (id_of_text text)

abbrev pub run_key : Option Id → Option RunKey
run_key (Some (run_id k)) = Some k
run_key _ = None

abbrev pub key_in : List ℕ → Option RunKey
key_in text = run_key (id_of_text text)

-- the run below its own task
abbrev pub below_task : Option Id → RunKey → Option RunKey
below_task (Some (task_id lead task)) k = if k.lead == lead && k.task == task then Some k else None
below_task _ k = None

abbrev pub run_in : List ℕ → List ℕ → Option RunKey
run_in id run = option_and_then (below_task (id_of_text id)) (key_in run)

-- ---- places
-- the parts begin with an empty one and `pscheduler`
abbrev pub place_in : ℕ → List (List ℕ) → Route → Option Place
place_in self ps route.Home = Some (Public public.Home)
place_in self ps route.Clock = Some (Public public.Clock)
place_in self ps route.Tests = Some (Public public.Tests)
place_in self ps route.Tools = Some (Public public.Tools)
place_in self ps route.Archivers = Some (Public public.Archivers)
place_in self ps route.Test = Some (Public public.Test)
place_in self ps route.Tasks = Some (Public public.Tasks)
place_in self ps route.Task = option_map (λ serial. Public (public.Task serial)) (serial_in self (part ps 3))
place_in self ps route.Runs = option_map (λ serial. Public (public.Runs serial)) (serial_in self (part ps 3))
place_in self ps route.Run = option_map (λ k. Public (public.Run k)) (run_in (part ps 3) (part ps 5))
place_in self ps route.Schedule = Some (Public public.Schedule)
place_in self ps route.Free = Some (Peer peer.Free)
place_in self ps route.Propose = Some (Peer peer.Propose)
place_in self ps route.Drop = option_map (λ k. Peer (peer.Drop k)) (key_in (part ps 4))
place_in self ps route.Confirm = option_map (λ k. Peer (peer.Confirm k)) (key_in (part ps 4))
place_in self ps route.Material = option_map (λ k. Peer (peer.Material k)) (key_in (part ps 4))
place_in self ps route.Result = option_map (λ k. Peer (peer.Result k)) (key_in (part ps 4))

abbrev pub target_at : ℕ → List (List ℕ) → Option Found → Option Target
target_at self ps None = None
target_at self ps (Some found) = option_map (λ place. record { place = place; methods = found.methods }) (place_in self ps found.route)

abbrev pub target_in : ℕ → List (List ℕ) → Option Target
target_in self ps = target_at self ps (route_of ps)

-- what a path names on the host with this number
abbrev pub target_of : ℕ → List ℕ → Option Target
target_of self path = if is_plain path then target_in self (slice_split (λ b. b == 47) path) else None
