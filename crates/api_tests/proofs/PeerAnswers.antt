-- Answers of peers to orders, computed.
use Rattle.std.specs.Fmt.{digits}
use Rattle.std.specs.Prelude.{◌∷◌, ◌≡◌, List, [], codes, map}
use Rattle.std.specs.Str.{chars, is_utf8}
use Rattle.std.proofs.Common.{refl}
use lib.Utf8.{encode}
use Rattle.json.specs.Print.{escape_byte}
use Rattle.jiff_core.specs.Calendar.{day_count, days_from_civil, days_of_months, days_of_years}
use Rattle.serde_json.proofs.OnLiterals.{serde_json_on_literals}
use Rattle.uuid.proofs.OnLiterals.{uuid_on_literals}
use Rattle.ps_time.specs.Length.{amount_of, clock_at, count_at, days_at, length_of, length_text_of, seconds_at}
use Rattle.ps_time.specs.Moment.{moment_of, offset_of, stamp_of}
use Rattle.ps_time.specs.Moment.{seconds_at as clock_seconds}
use Rattle.ps_time.specs.Picture.{begins_as, fraction_at, leading_number}
use Rattle.ps_time.specs.Start.{start_of}
use Rattle.api_reply.specs.Shown.{run_text}
use Rattle.api_answer.specs.Told.{first_in, second_in}
use Rattle.api_tests.proofs.Told.{Answer, a_proposal, a_question, answers, told_answer_to}
use Rattle.host_model.specs.declared.order.OrderBody.TheVariants as order

abbrev answer_cases : List Answer
answer_cases =
    answers (codes "other 400") a_question 400 (codes "{\"error\":\"x\"}") ∷
    answers (codes "other 405") a_question 405 (codes "{\"error\":\"x\"}") ∷
    answers (codes "other 413") a_question 413 (codes "{\"error\":\"x\"}") ∷
    answers (codes "other 500") a_question 500 (codes "{\"error\":\"x\"}") ∷
    answers (codes "other 503") a_question 503 (codes "{\"error\":\"x\"}") ∷
    answers (codes "other 201") a_question 201 (codes "{\"error\":\"x\"}") ∷
    answers (codes "other 204") a_question 204 (codes "{\"error\":\"x\"}") ∷
    answers (codes "other 404") a_question 404 (codes "{\"error\":\"not found\"}") ∷
    answers (codes "other 403") a_question 403 (codes "{\"error\":\"not the lead\"}") ∷
    answers (codes "other 403") a_question 403 (codes "{\"error\":\"no peer key\"}") ∷
    answers (codes "none") a_question 200 [] ∷
    answers (codes "none") a_question 200 (codes "{") ∷
    answers (codes "none") a_question 200 (codes "[]") ∷
    answers (codes "none") a_question 200 (codes "{}") ∷
    answers (codes "none") a_question 200 (codes "{\"x\":1}") ∷
    answers (codes "other 400") a_proposal 400 (codes "{\"error\":\"x\"}") ∷
    answers (codes "other 405") a_proposal 405 (codes "{\"error\":\"x\"}") ∷
    answers (codes "other 413") a_proposal 413 (codes "{\"error\":\"x\"}") ∷
    answers (codes "other 500") a_proposal 500 (codes "{\"error\":\"x\"}") ∷
    answers (codes "other 503") a_proposal 503 (codes "{\"error\":\"x\"}") ∷
    answers (codes "other 201") a_proposal 201 (codes "{\"error\":\"x\"}") ∷
    answers (codes "other 204") a_proposal 204 (codes "{\"error\":\"x\"}") ∷
    answers (codes "other 404") a_proposal 404 (codes "{\"error\":\"not found\"}") ∷
    answers (codes "other 403") a_proposal 403 (codes "{\"error\":\"not the lead\"}") ∷
    answers (codes "other 403") a_proposal 403 (codes "{\"error\":\"no peer key\"}") ∷
    answers (codes "none") a_proposal 200 [] ∷
    answers (codes "none") a_proposal 200 (codes "{") ∷
    answers (codes "none") a_proposal 200 (codes "[]") ∷
    answers (codes "none") a_proposal 200 (codes "{}") ∷
    answers (codes "none") a_proposal 200 (codes "{\"x\":1}") ∷
    answers (codes "other 400") order.Confirm 400 (codes "{\"error\":\"x\"}") ∷
    answers (codes "other 405") order.Confirm 405 (codes "{\"error\":\"x\"}") ∷
    answers (codes "other 413") order.Confirm 413 (codes "{\"error\":\"x\"}") ∷
    answers (codes "other 500") order.Confirm 500 (codes "{\"error\":\"x\"}") ∷
    answers (codes "other 503") order.Confirm 503 (codes "{\"error\":\"x\"}") ∷
    answers (codes "other 201") order.Confirm 201 (codes "{\"error\":\"x\"}") ∷
    answers (codes "other 204") order.Confirm 204 (codes "{\"error\":\"x\"}") ∷
    answers (codes "unknown") order.Confirm 404 (codes "{\"error\":\"not found\"}") ∷
    answers (codes "other 403") order.Confirm 403 (codes "{\"error\":\"not the lead\"}") ∷
    answers (codes "other 403") order.Confirm 403 (codes "{\"error\":\"no peer key\"}") ∷
    answers (codes "none") order.Confirm 200 [] ∷
    answers (codes "none") order.Confirm 200 (codes "{") ∷
    answers (codes "none") order.Confirm 200 (codes "[]") ∷
    answers (codes "none") order.Confirm 200 (codes "{}") ∷
    answers (codes "none") order.Confirm 200 (codes "{\"x\":1}") ∷
    answers (codes "other 400") order.Cancel 400 (codes "{\"error\":\"x\"}") ∷
    answers (codes "other 405") order.Cancel 405 (codes "{\"error\":\"x\"}") ∷
    answers (codes "other 413") order.Cancel 413 (codes "{\"error\":\"x\"}") ∷
    answers (codes "other 500") order.Cancel 500 (codes "{\"error\":\"x\"}") ∷
    answers (codes "other 503") order.Cancel 503 (codes "{\"error\":\"x\"}") ∷
    answers (codes "other 201") order.Cancel 201 (codes "{\"error\":\"x\"}") ∷
    answers (codes "other 204") order.Cancel 204 (codes "{\"error\":\"x\"}") ∷
    answers (codes "other 404") order.Cancel 404 (codes "{\"error\":\"not found\"}") ∷
    answers (codes "other 403") order.Cancel 403 (codes "{\"error\":\"not the lead\"}") ∷
    answers (codes "other 403") order.Cancel 403 (codes "{\"error\":\"no peer key\"}") ∷
    answers (codes "none") order.Cancel 200 [] ∷
    answers (codes "none") order.Cancel 200 (codes "{") ∷
    answers (codes "none") order.Cancel 200 (codes "[]") ∷
    answers (codes "none") order.Cancel 200 (codes "{}") ∷
    answers (codes "none") order.Cancel 200 (codes "{\"x\":1}") ∷
    answers (codes "other 400") (order.Material (codes "hello")) 400 (codes "{\"error\":\"x\"}") ∷
    answers (codes "other 405") (order.Material (codes "hello")) 405 (codes "{\"error\":\"x\"}") ∷
    answers (codes "other 413") (order.Material (codes "hello")) 413 (codes "{\"error\":\"x\"}") ∷
    answers (codes "other 500") (order.Material (codes "hello")) 500 (codes "{\"error\":\"x\"}") ∷
    answers (codes "other 503") (order.Material (codes "hello")) 503 (codes "{\"error\":\"x\"}") ∷
    answers (codes "other 201") (order.Material (codes "hello")) 201 (codes "{\"error\":\"x\"}") ∷
    answers (codes "other 204") (order.Material (codes "hello")) 204 (codes "{\"error\":\"x\"}") ∷
    answers (codes "other 404") (order.Material (codes "hello")) 404 (codes "{\"error\":\"not found\"}") ∷
    answers (codes "other 403") (order.Material (codes "hello")) 403 (codes "{\"error\":\"not the lead\"}") ∷
    answers (codes "other 403") (order.Material (codes "hello")) 403 (codes "{\"error\":\"no peer key\"}") ∷
    answers (codes "none") (order.Material (codes "hello")) 200 [] ∷
    answers (codes "none") (order.Material (codes "hello")) 200 (codes "{") ∷
    answers (codes "none") (order.Material (codes "hello")) 200 (codes "[]") ∷
    answers (codes "none") (order.Material (codes "hello")) 200 (codes "{}") ∷
    answers (codes "none") (order.Material (codes "hello")) 200 (codes "{\"x\":1}") ∷
    answers (codes "other 400") order.Result 400 (codes "{\"error\":\"x\"}") ∷
    answers (codes "other 405") order.Result 405 (codes "{\"error\":\"x\"}") ∷
    answers (codes "other 413") order.Result 413 (codes "{\"error\":\"x\"}") ∷
    answers (codes "other 500") order.Result 500 (codes "{\"error\":\"x\"}") ∷
    answers (codes "other 503") order.Result 503 (codes "{\"error\":\"x\"}") ∷
    answers (codes "other 201") order.Result 201 (codes "{\"error\":\"x\"}") ∷
    answers (codes "other 204") order.Result 204 (codes "{\"error\":\"x\"}") ∷
    answers (codes "other 404") order.Result 404 (codes "{\"error\":\"not found\"}") ∷
    answers (codes "other 403") order.Result 403 (codes "{\"error\":\"not the lead\"}") ∷
    answers (codes "other 403") order.Result 403 (codes "{\"error\":\"no peer key\"}") ∷
    answers (codes "none") order.Result 200 [] ∷
    answers (codes "none") order.Result 200 (codes "{") ∷
    answers (codes "none") order.Result 200 (codes "[]") ∷
    answers (codes "none") order.Result 200 (codes "{}") ∷
    answers (codes "none") order.Result 200 (codes "{\"x\":1}") ∷
    answers (codes "unknown") order.Confirm 404 [] ∷
    answers (codes "other 409") (order.Material (codes "hello")) 409 (codes "{\"error\":\"not running\"}") ∷
    answers (codes "other 409") a_proposal 409 [] ∷
    answers (codes "other 507") a_proposal 507 (codes "{}") ∷
    answers (codes "accepted 1000") a_proposal 200 (codes "{\"accepted\":1000}") ∷
    answers (codes "accepted 0") a_proposal 200 (codes "{\"accepted\":0}") ∷
    answers (codes "accepted 4102444800") a_proposal 200 (codes "{\"accepted\":4102444800}") ∷
    answers (codes "none") a_proposal 200 (codes "{\"accepted\":4102444801}") ∷
    answers (codes "none") a_proposal 200 (codes "{\"accepted\":-1}") ∷
    answers (codes "none") a_proposal 200 (codes "{\"accepted\":1000.5}") ∷
    answers (codes "none") a_proposal 200 (codes "{\"accepted\":\"1000\"}") ∷
    answers (codes "none") a_proposal 200 (codes "{\"accepted\":null}") ∷
    answers (codes "none") a_proposal 200 (codes "{\"accepted\":true}") ∷
    answers (codes "none") a_proposal 200 (codes "{\"accepted\":1000,\"x\":1}") ∷
    answers (codes "accepted 1000") a_proposal 200 (codes "{\"#x\":1,\"accepted\":1000}") ∷
    answers (codes "confirmed 1000") order.Confirm 200 (codes "{\"confirmed\":1000}") ∷
    answers (codes "confirmed 0") order.Confirm 200 (codes "{\"confirmed\":0}") ∷
    answers (codes "confirmed 4102444800") order.Confirm 200 (codes "{\"confirmed\":4102444800}") ∷
    answers (codes "none") order.Confirm 200 (codes "{\"confirmed\":4102444801}") ∷
    answers (codes "none") order.Confirm 200 (codes "{\"confirmed\":-1}") ∷
    answers (codes "none") order.Confirm 200 (codes "{\"confirmed\":1000.5}") ∷
    answers (codes "none") order.Confirm 200 (codes "{\"confirmed\":\"1000\"}") ∷
    answers (codes "none") order.Confirm 200 (codes "{\"confirmed\":null}") ∷
    answers (codes "none") order.Confirm 200 (codes "{\"confirmed\":true}") ∷
    answers (codes "none") order.Confirm 200 (codes "{\"confirmed\":1000,\"x\":1}") ∷
    answers (codes "confirmed 1000") order.Confirm 200 (codes "{\"#x\":1,\"confirmed\":1000}") ∷
    answers (codes "none") a_proposal 200 (codes "{\"confirmed\":1000}") ∷
    answers (codes "none") order.Confirm 200 (codes "{\"accepted\":1000}") ∷
    answers (codes "dropped") order.Cancel 200 (codes "{\"dropped\":true}") ∷
    answers (codes "none") order.Cancel 200 (codes "{\"dropped\":false}") ∷
    answers (codes "none") order.Cancel 200 (codes "{\"dropped\":1}") ∷
    answers (codes "none") order.Cancel 200 (codes "{\"dropped\":true,\"x\":1}") ∷
    answers (codes "heard") (order.Material (codes "hello")) 200 (codes "{\"heard\":true}") ∷
    answers (codes "none") (order.Material (codes "hello")) 200 (codes "{\"heard\":false}") ∷
    answers (codes "none") (order.Material (codes "hello")) 200 (codes "{\"heard\":1}") ∷
    answers (codes "none") (order.Material (codes "hello")) 200 (codes "{\"heard\":true,\"x\":1}") ∷
    answers (codes "none") order.Cancel 200 (codes "{\"heard\":true}") ∷
    answers (codes "none") (order.Material (codes "hello")) 200 (codes "{\"dropped\":true}") ∷
    answers (codes "free 0 0 0") a_question 200 (codes "{\"first-tier\":[],\"second-tier\":[],\"tools\":[]}") ∷
    answers (codes "free 1 0 1") a_question 200 (codes "{\"first-tier\":[[1,2]],\"second-tier\":[],\"tools\":[\"sleep\"]}") ∷
    answers (codes "free 2 1 4") a_question 200 (codes "{\"first-tier\":[[1,2],[4,4]],\"second-tier\":[[1,9]],\"tools\":[\"simplestreamer\",\"sleep\",\"sleepbgm\",\"snooze\"]}") ∷
    answers (codes "free 1 0 0") a_question 200 (codes "{\"first-tier\":[[0,4102444800]],\"second-tier\":[],\"tools\":[]}") ∷
    answers (codes "none") a_question 200 (codes "{\"first-tier\":[[2,1]],\"second-tier\":[],\"tools\":[]}") ∷
    answers (codes "none") a_question 200 (codes "{\"first-tier\":[],\"second-tier\":[[2,1]],\"tools\":[]}") ∷
    answers (codes "none") a_question 200 (codes "{\"first-tier\":[[1]],\"second-tier\":[],\"tools\":[]}") ∷
    answers (codes "none") a_question 200 (codes "{\"first-tier\":[],\"second-tier\":[[1]],\"tools\":[]}") ∷
    answers (codes "none") a_question 200 (codes "{\"first-tier\":[[1,2,3]],\"second-tier\":[],\"tools\":[]}") ∷
    answers (codes "none") a_question 200 (codes "{\"first-tier\":[],\"second-tier\":[[1,2,3]],\"tools\":[]}") ∷
    answers (codes "none") a_question 200 (codes "{\"first-tier\":[1,2],\"second-tier\":[],\"tools\":[]}") ∷
    answers (codes "none") a_question 200 (codes "{\"first-tier\":[],\"second-tier\":[1,2],\"tools\":[]}") ∷
    answers (codes "none") a_question 200 (codes "{\"first-tier\":[[1,4102444801]],\"second-tier\":[],\"tools\":[]}") ∷
    answers (codes "none") a_question 200 (codes "{\"first-tier\":[],\"second-tier\":[[1,4102444801]],\"tools\":[]}") ∷
    answers (codes "none") a_question 200 (codes "{\"first-tier\":[[-1,2]],\"second-tier\":[],\"tools\":[]}") ∷
    answers (codes "none") a_question 200 (codes "{\"first-tier\":[],\"second-tier\":[[-1,2]],\"tools\":[]}") ∷
    answers (codes "none") a_question 200 (codes "{\"first-tier\":[[\"1\",2]],\"second-tier\":[],\"tools\":[]}") ∷
    answers (codes "none") a_question 200 (codes "{\"first-tier\":[],\"second-tier\":[[\"1\",2]],\"tools\":[]}") ∷
    answers (codes "none") a_question 200 (codes "{\"first-tier\":[[1.5,2]],\"second-tier\":[],\"tools\":[]}") ∷
    answers (codes "none") a_question 200 (codes "{\"first-tier\":[],\"second-tier\":[[1.5,2]],\"tools\":[]}") ∷
    answers (codes "none") a_question 200 (codes "{\"first-tier\":1,\"second-tier\":[],\"tools\":[]}") ∷
    answers (codes "none") a_question 200 (codes "{\"first-tier\":[],\"second-tier\":1,\"tools\":[]}") ∷
    answers (codes "none") a_question 200 (codes "{\"first-tier\":null,\"second-tier\":[],\"tools\":[]}") ∷
    answers (codes "none") a_question 200 (codes "{\"first-tier\":[],\"second-tier\":null,\"tools\":[]}") ∷
    answers (codes "none") a_question 200 (codes "{\"first-tier\":[{}],\"second-tier\":[],\"tools\":[]}") ∷
    answers (codes "none") a_question 200 (codes "{\"first-tier\":[],\"second-tier\":[{}],\"tools\":[]}") ∷
    answers (codes "free 128 0 0") a_question 200 (codes "{\"first-tier\":[[0,1],[3,4],[6,7],[9,10],[12,13],[15,16],[18,19],[21,22],[24,25],[27,28],[30,31],[33,34],[36,37],[39,40],[42,43],[45,46],[48,49],[51,52],[54,55],[57,58],[60,61],[63,64],[66,67],[69,70],[72,73],[75,76],[78,79],[81,82],[84,85],[87,88],[90,91],[93,94],[96,97],[99,100],[102,103],[105,106],[108,109],[111,112],[114,115],[117,118],[120,121],[123,124],[126,127],[129,130],[132,133],[135,136],[138,139],[141,142],[144,145],[147,148],[150,151],[153,154],[156,157],[159,160],[162,163],[165,166],[168,169],[171,172],[174,175],[177,178],[180,181],[183,184],[186,187],[189,190],[192,193],[195,196],[198,199],[201,202],[204,205],[207,208],[210,211],[213,214],[216,217],[219,220],[222,223],[225,226],[228,229],[231,232],[234,235],[237,238],[240,241],[243,244],[246,247],[249,250],[252,253],[255,256],[258,259],[261,262],[264,265],[267,268],[270,271],[273,274],[276,277],[279,280],[282,283],[285,286],[288,289],[291,292],[294,295],[297,298],[300,301],[303,304],[306,307],[309,310],[312,313],[315,316],[318,319],[321,322],[324,325],[327,328],[330,331],[333,334],[336,337],[339,340],[342,343],[345,346],[348,349],[351,352],[354,355],[357,358],[360,361],[363,364],[366,367],[369,370],[372,373],[375,376],[378,379],[381,382]],\"second-tier\":[],\"tools\":[]}") ∷
    answers (codes "none") a_question 200 (codes "{\"first-tier\":[[0,1],[3,4],[6,7],[9,10],[12,13],[15,16],[18,19],[21,22],[24,25],[27,28],[30,31],[33,34],[36,37],[39,40],[42,43],[45,46],[48,49],[51,52],[54,55],[57,58],[60,61],[63,64],[66,67],[69,70],[72,73],[75,76],[78,79],[81,82],[84,85],[87,88],[90,91],[93,94],[96,97],[99,100],[102,103],[105,106],[108,109],[111,112],[114,115],[117,118],[120,121],[123,124],[126,127],[129,130],[132,133],[135,136],[138,139],[141,142],[144,145],[147,148],[150,151],[153,154],[156,157],[159,160],[162,163],[165,166],[168,169],[171,172],[174,175],[177,178],[180,181],[183,184],[186,187],[189,190],[192,193],[195,196],[198,199],[201,202],[204,205],[207,208],[210,211],[213,214],[216,217],[219,220],[222,223],[225,226],[228,229],[231,232],[234,235],[237,238],[240,241],[243,244],[246,247],[249,250],[252,253],[255,256],[258,259],[261,262],[264,265],[267,268],[270,271],[273,274],[276,277],[279,280],[282,283],[285,286],[288,289],[291,292],[294,295],[297,298],[300,301],[303,304],[306,307],[309,310],[312,313],[315,316],[318,319],[321,322],[324,325],[327,328],[330,331],[333,334],[336,337],[339,340],[342,343],[345,346],[348,349],[351,352],[354,355],[357,358],[360,361],[363,364],[366,367],[369,370],[372,373],[375,376],[378,379],[381,382],[384,385]],\"second-tier\":[],\"tools\":[]}") ∷
    answers (codes "free 0 128 0") a_question 200 (codes "{\"first-tier\":[],\"second-tier\":[[0,1],[3,4],[6,7],[9,10],[12,13],[15,16],[18,19],[21,22],[24,25],[27,28],[30,31],[33,34],[36,37],[39,40],[42,43],[45,46],[48,49],[51,52],[54,55],[57,58],[60,61],[63,64],[66,67],[69,70],[72,73],[75,76],[78,79],[81,82],[84,85],[87,88],[90,91],[93,94],[96,97],[99,100],[102,103],[105,106],[108,109],[111,112],[114,115],[117,118],[120,121],[123,124],[126,127],[129,130],[132,133],[135,136],[138,139],[141,142],[144,145],[147,148],[150,151],[153,154],[156,157],[159,160],[162,163],[165,166],[168,169],[171,172],[174,175],[177,178],[180,181],[183,184],[186,187],[189,190],[192,193],[195,196],[198,199],[201,202],[204,205],[207,208],[210,211],[213,214],[216,217],[219,220],[222,223],[225,226],[228,229],[231,232],[234,235],[237,238],[240,241],[243,244],[246,247],[249,250],[252,253],[255,256],[258,259],[261,262],[264,265],[267,268],[270,271],[273,274],[276,277],[279,280],[282,283],[285,286],[288,289],[291,292],[294,295],[297,298],[300,301],[303,304],[306,307],[309,310],[312,313],[315,316],[318,319],[321,322],[324,325],[327,328],[330,331],[333,334],[336,337],[339,340],[342,343],[345,346],[348,349],[351,352],[354,355],[357,358],[360,361],[363,364],[366,367],[369,370],[372,373],[375,376],[378,379],[381,382]],\"tools\":[]}") ∷
    answers (codes "none") a_question 200 (codes "{\"first-tier\":[],\"second-tier\":[[0,1],[3,4],[6,7],[9,10],[12,13],[15,16],[18,19],[21,22],[24,25],[27,28],[30,31],[33,34],[36,37],[39,40],[42,43],[45,46],[48,49],[51,52],[54,55],[57,58],[60,61],[63,64],[66,67],[69,70],[72,73],[75,76],[78,79],[81,82],[84,85],[87,88],[90,91],[93,94],[96,97],[99,100],[102,103],[105,106],[108,109],[111,112],[114,115],[117,118],[120,121],[123,124],[126,127],[129,130],[132,133],[135,136],[138,139],[141,142],[144,145],[147,148],[150,151],[153,154],[156,157],[159,160],[162,163],[165,166],[168,169],[171,172],[174,175],[177,178],[180,181],[183,184],[186,187],[189,190],[192,193],[195,196],[198,199],[201,202],[204,205],[207,208],[210,211],[213,214],[216,217],[219,220],[222,223],[225,226],[228,229],[231,232],[234,235],[237,238],[240,241],[243,244],[246,247],[249,250],[252,253],[255,256],[258,259],[261,262],[264,265],[267,268],[270,271],[273,274],[276,277],[279,280],[282,283],[285,286],[288,289],[291,292],[294,295],[297,298],[300,301],[303,304],[306,307],[309,310],[312,313],[315,316],[318,319],[321,322],[324,325],[327,328],[330,331],[333,334],[336,337],[339,340],[342,343],[345,346],[348,349],[351,352],[354,355],[357,358],[360,361],[363,364],[366,367],[369,370],[372,373],[375,376],[378,379],[381,382],[384,385]],\"tools\":[]}") ∷
    answers (codes "none") a_question 200 (codes "{\"first-tier\":[],\"second-tier\":[],\"tools\":[\"hammer\"]}") ∷
    answers (codes "none") a_question 200 (codes "{\"first-tier\":[],\"second-tier\":[],\"tools\":[\"sleep\",\"sleep\"]}") ∷
    answers (codes "none") a_question 200 (codes "{\"first-tier\":[],\"second-tier\":[],\"tools\":[1]}") ∷
    answers (codes "none") a_question 200 (codes "{\"first-tier\":[],\"second-tier\":[],\"tools\":\"sleep\"}") ∷
    answers (codes "none") a_question 200 (codes "{\"first-tier\":[],\"second-tier\":[],\"tools\":{}}") ∷
    answers (codes "none") a_question 200 (codes "{\"first-tier\":[],\"second-tier\":[],\"tools\":[\"sleep\",\"sleepbgm\",\"snooze\",\"simplestreamer\",\"sleep\"]}") ∷
    answers (codes "none") a_question 200 (codes "{\"first-tier\":[],\"second-tier\":[]}") ∷
    answers (codes "none") a_question 200 (codes "{\"first-tier\":[],\"tools\":[]}") ∷
    answers (codes "none") a_question 200 (codes "{\"second-tier\":[],\"tools\":[]}") ∷
    answers (codes "none") a_question 200 (codes "{\"first-tier\":[],\"second-tier\":[],\"tools\":[],\"x\":1}") ∷
    answers (codes "denied stranger") a_question 409 (codes "{\"error\":\"not a participant\",\"host\":\"b\"}") ∷
    answers (codes "result {\"a\":1}") order.Result 200 (codes "{\"result\":{\"a\":1}}") ∷
    answers (codes "result {\"a\":1,\"b\":2}") order.Result 200 (codes "{\"result\": {\"b\":2, \"a\":1}}") ∷
    answers (codes "result null") order.Result 200 (codes "{\"result\":null}") ∷
    answers (codes "result []") order.Result 200 (codes "{\"result\":[]}") ∷
    answers (codes "result 1") order.Result 200 (codes "{\"result\":1}") ∷
    answers (codes "none") order.Result 200 (codes "{\"result\":1.5}") ∷
    answers (codes "none") order.Result 200 (codes "{\"result\":[1e1]}") ∷
    answers (codes "none") order.Result 200 (codes "{\"result\":{\"a\":{\"b\":0.5}}}") ∷
    answers (codes "none") order.Result 200 (codes "{\"result\":1,\"state\":\"pending\"}") ∷
    answers (codes "none") order.Result 200 (codes "{\"result\":1,\"x\":1}") ∷
    answers (codes "result [[[[[[[[[[[[[[[[[[[[[[[[[[[[[[[[[[[[[[[[[[[[[[[[[[[[[[[[[[[[]]]]]]]]]]]]]]]]]]]]]]]]]]]]]]]]]]]]]]]]]]]]]]]]]]]]]]]]]]]]") order.Result 200 (codes "{\"result\":[[[[[[[[[[[[[[[[[[[[[[[[[[[[[[[[[[[[[[[[[[[[[[[[[[[[[[[[[[[[]]]]]]]]]]]]]]]]]]]]]]]]]]]]]]]]]]]]]]]]]]]]]]]]]]]]]]]]]]]]}") ∷
    answers (codes "none") order.Result 200 (codes "{\"result\":[[[[[[[[[[[[[[[[[[[[[[[[[[[[[[[[[[[[[[[[[[[[[[[[[[[[[[[[[[[[[]]]]]]]]]]]]]]]]]]]]]]]]]]]]]]]]]]]]]]]]]]]]]]]]]]]]]]]]]]]]]}") ∷
    answers (codes "state missed") order.Result 200 (codes "{\"state\":\"missed\"}") ∷
    answers (codes "state preempted") order.Result 200 (codes "{\"state\":\"preempted\"}") ∷
    answers (codes "state nonstart") order.Result 200 (codes "{\"state\":\"nonstart\"}") ∷
    answers (codes "state canceled") order.Result 200 (codes "{\"state\":\"canceled\"}") ∷
    answers (codes "state finished") order.Result 200 (codes "{\"state\":\"finished\"}") ∷
    answers (codes "state failed") order.Result 200 (codes "{\"state\":\"failed\"}") ∷
    answers (codes "state running") order.Result 200 (codes "{\"state\":\"running\"}") ∷
    answers (codes "state cleanup") order.Result 200 (codes "{\"state\":\"cleanup\"}") ∷
    answers (codes "state overdue") order.Result 200 (codes "{\"state\":\"overdue\"}") ∷
    answers (codes "state on-deck") order.Result 200 (codes "{\"state\":\"on-deck\"}") ∷
    answers (codes "state pending") order.Result 200 (codes "{\"state\":\"pending\"}") ∷
    answers (codes "none") order.Result 200 (codes "{\"state\":\"Pending\"}") ∷
    answers (codes "none") order.Result 200 (codes "{\"state\":\"done\"}") ∷
    answers (codes "none") order.Result 200 (codes "{\"state\":1}") ∷
    answers (codes "none") order.Result 200 (codes "{\"state\":null}") ∷
    answers (codes "none") order.Result 200 (codes "{\"state\":\"pending\",\"x\":1}") ∷
    answers (codes "denied stopped 3") a_proposal 403 (codes "{\"error\":\"limits\",\"index\":3,\"verdict\":\"stopped\"}") ∷
    answers (codes "denied stopped 4294967295") a_proposal 403 (codes "{\"error\":\"limits\",\"index\":4294967295,\"verdict\":\"stopped\"}") ∷
    answers (codes "denied exhausted") a_proposal 403 (codes "{\"error\":\"limits\",\"verdict\":\"exhausted\"}") ∷
    answers (codes "denied above 5") a_proposal 403 (codes "{\"ceiling\":5,\"error\":\"limits\",\"verdict\":\"above-ceiling\"}") ∷
    answers (codes "denied above -32768") a_proposal 403 (codes "{\"ceiling\":-32768,\"error\":\"limits\",\"verdict\":\"above-ceiling\"}") ∷
    answers (codes "other 403") a_proposal 403 (codes "{\"error\":\"limits\"}") ∷
    answers (codes "other 403") a_proposal 403 (codes "{\"error\":\"limits\",\"verdict\":\"permitted\"}") ∷
    answers (codes "other 403") a_proposal 403 (codes "{\"error\":\"limits\",\"index\":4294967296,\"verdict\":\"stopped\"}") ∷
    answers (codes "other 403") a_proposal 403 (codes "{\"error\":\"limits\",\"index\":-1,\"verdict\":\"stopped\"}") ∷
    answers (codes "other 403") a_proposal 403 (codes "{\"error\":\"limits\",\"verdict\":\"stopped\"}") ∷
    answers (codes "other 403") a_proposal 403 (codes "{\"error\":\"limits\",\"verdict\":\"above-ceiling\"}") ∷
    answers (codes "other 403") a_proposal 403 (codes "{\"ceiling\":32768,\"error\":\"limits\",\"verdict\":\"above-ceiling\"}") ∷
    answers (codes "other 403") a_proposal 403 (codes "{\"error\":\"limits\",\"verdict\":\"exhausted\",\"x\":1}") ∷
    answers (codes "other 403") a_proposal 403 (codes "{\"error\":\"limits\",\"index\":1,\"verdict\":\"exhausted\"}") ∷
    answers (codes "other 403") a_proposal 403 (codes "{\"verdict\":\"exhausted\"}") ∷
    answers (codes "other 403") a_proposal 403 (codes "x") ∷
    answers (codes "denied past 1000 999") a_proposal 409 (codes "{\"error\":\"past\",\"moment\":1000,\"start\":999}") ∷
    answers (codes "other 409") a_proposal 409 (codes "{\"error\":\"past\",\"moment\":1000}") ∷
    answers (codes "other 409") a_proposal 409 (codes "{\"error\":\"past\",\"moment\":4102444801,\"start\":1}") ∷
    answers (codes "other 409") a_proposal 409 (codes "{\"error\":\"past\",\"moment\":\"1\",\"start\":1}") ∷
    answers (codes "denied conflict 00020000-0003-8001-8000-000000040005") a_proposal 409 (codes "{\"error\":\"conflict\",\"run\":\"00020000-0003-8001-8000-000000040005\"}") ∷
    answers (codes "other 409") a_proposal 409 (codes "{\"error\":\"conflict\",\"run\":\"x\"}") ∷
    answers (codes "other 409") a_proposal 409 (codes "{\"error\":\"conflict\"}") ∷
    answers (codes "denied full runs 50000") a_proposal 507 (codes "{\"count\":50000,\"error\":\"full\",\"what\":\"runs\"}") ∷
    answers (codes "denied full results 50000") a_proposal 507 (codes "{\"count\":50000,\"error\":\"full\",\"what\":\"results\"}") ∷
    answers (codes "denied full numbers 50000") a_proposal 507 (codes "{\"count\":50000,\"error\":\"full\",\"what\":\"numbers\"}") ∷
    answers (codes "denied full runs 18446744073709551615") a_proposal 507 (codes "{\"count\":18446744073709551615,\"error\":\"full\",\"what\":\"runs\"}") ∷
    answers (codes "other 507") a_proposal 507 (codes "{\"count\":1,\"error\":\"full\",\"what\":\"tasks\"}") ∷
    answers (codes "other 507") a_proposal 507 (codes "{\"count\":-1,\"error\":\"full\",\"what\":\"runs\"}") ∷
    answers (codes "other 507") a_proposal 507 (codes "{\"error\":\"full\",\"what\":\"runs\"}") ∷
    answers (codes "denied differs 1007 from a, 1008 from a") a_proposal 409 (codes "{\"error\":\"differs\",\"kept\":{\"key\":\"00010000-0001-8001-8000-000000000000\",\"priority\":0,\"requester\":\"10.0.0.9\",\"start\":1007,\"test\":{\"spec\":{\"duration\":\"PT10S\"},\"type\":\"idle\"},\"tool\":\"sleep\"},\"sent\":{\"key\":\"00010000-0001-8001-8000-000000000000\",\"priority\":0,\"requester\":\"10.0.0.9\",\"start\":1008,\"test\":{\"spec\":{\"duration\":\"PT10S\"},\"type\":\"idle\"},\"tool\":\"sleep\"}}") ∷
    answers (codes "other 409") a_proposal 409 (codes "{\"error\":\"differs\",\"kept\":{\"key\":\"00010000-0001-8001-8000-000000000000\",\"priority\":0,\"requester\":\"10.0.0.9\",\"start\":1007,\"test\":{\"spec\":{\"duration\":\"PT10S\"},\"type\":\"idle\"},\"tool\":\"sleep\"}}") ∷
    answers (codes "other 409") a_proposal 409 (codes "{\"error\":\"differs\",\"kept\":1,\"sent\":{\"key\":\"00010000-0001-8001-8000-000000000000\",\"priority\":0,\"requester\":\"10.0.0.9\",\"start\":1008,\"test\":{\"spec\":{\"duration\":\"PT10S\"},\"type\":\"idle\"},\"tool\":\"sleep\"}}") ∷
    answers (codes "other 409") a_proposal 409 (codes "{\"error\":\"differs\",\"kept\":{\"key\":\"00010000-0001-8001-8000-000000000000\",\"priority\":40000,\"requester\":\"10.0.0.9\",\"start\":1007,\"test\":{\"spec\":{\"duration\":\"PT10S\"},\"type\":\"idle\"},\"tool\":\"sleep\"},\"sent\":{\"key\":\"00010000-0001-8001-8000-000000000000\",\"priority\":0,\"requester\":\"10.0.0.9\",\"start\":1008,\"test\":{\"spec\":{\"duration\":\"PT10S\"},\"type\":\"idle\"},\"tool\":\"sleep\"}}") ∷
    answers (codes "denied closed canceled") a_proposal 409 (codes "{\"error\":\"closed\",\"why\":\"canceled\"}") ∷
    answers (codes "denied closed canceled") order.Confirm 409 (codes "{\"error\":\"closed\",\"why\":\"canceled\"}") ∷
    answers (codes "denied closed canceled") (order.Material (codes "hello")) 409 (codes "{\"error\":\"closed\",\"why\":\"canceled\"}") ∷
    answers (codes "denied closed canceled") order.Result 409 (codes "{\"error\":\"closed\",\"why\":\"canceled\"}") ∷
    answers (codes "denied closed preempted") a_proposal 409 (codes "{\"error\":\"closed\",\"why\":\"preempted\"}") ∷
    answers (codes "denied closed preempted") order.Confirm 409 (codes "{\"error\":\"closed\",\"why\":\"preempted\"}") ∷
    answers (codes "denied closed preempted") (order.Material (codes "hello")) 409 (codes "{\"error\":\"closed\",\"why\":\"preempted\"}") ∷
    answers (codes "denied closed preempted") order.Result 409 (codes "{\"error\":\"closed\",\"why\":\"preempted\"}") ∷
    answers (codes "denied closed missed") a_proposal 409 (codes "{\"error\":\"closed\",\"why\":\"missed\"}") ∷
    answers (codes "denied closed missed") order.Confirm 409 (codes "{\"error\":\"closed\",\"why\":\"missed\"}") ∷
    answers (codes "denied closed missed") (order.Material (codes "hello")) 409 (codes "{\"error\":\"closed\",\"why\":\"missed\"}") ∷
    answers (codes "denied closed missed") order.Result 409 (codes "{\"error\":\"closed\",\"why\":\"missed\"}") ∷
    answers (codes "denied closed nonstart") a_proposal 409 (codes "{\"error\":\"closed\",\"why\":\"nonstart\"}") ∷
    answers (codes "denied closed nonstart") order.Confirm 409 (codes "{\"error\":\"closed\",\"why\":\"nonstart\"}") ∷
    answers (codes "denied closed nonstart") (order.Material (codes "hello")) 409 (codes "{\"error\":\"closed\",\"why\":\"nonstart\"}") ∷
    answers (codes "denied closed nonstart") order.Result 409 (codes "{\"error\":\"closed\",\"why\":\"nonstart\"}") ∷
    answers (codes "other 409") order.Confirm 409 (codes "{\"error\":\"closed\",\"why\":\"gone\"}") ∷
    answers (codes "other 409") order.Confirm 409 (codes "{\"error\":\"closed\"}") ∷
    answers (codes "denied no tool sleep") a_proposal 409 (codes "{\"error\":\"no tool\",\"tool\":\"sleep\"}") ∷
    answers (codes "other 409") a_proposal 409 (codes "{\"error\":\"no tool\",\"tool\":1}") ∷
    answers (codes "denied stranger") a_proposal 409 (codes "{\"error\":\"not a participant\",\"host\":\"c\"}") ∷
    answers (codes "other 409") a_proposal 409 (codes "{\"error\":\"not a participant\"}") ∷
    answers (codes "denied stranger") a_proposal 403 (codes "{\"error\":\"not a participant\",\"host\":\"c\"}") ∷
    answers (codes "denied exhausted") a_proposal 507 (codes "{\"error\":\"limits\",\"verdict\":\"exhausted\"}") ∷
    []

peer_answers : map told_answer_to answer_cases ≡ map (λ c. c.want) answer_cases
unfolding is_utf8 chars encode digits uuid_on_literals serde_json_on_literals escape_byte length_of amount_of days_at count_at clock_at seconds_at leading_number begins_as fraction_at length_text_of moment_of offset_of stamp_of clock_seconds start_of day_count days_from_civil days_of_months days_of_years run_text first_in second_in
peer_answers = refl
