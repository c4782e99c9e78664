-- Rows and feeds that were worked out by hand, which the definitions give.
use Rattle.std.proofs.Common.{◌≡◌, ℕ, List, [], ◌∷◌, Some, None, refl, true, false}
use Rattle.std.specs.Prelude.{codes, slice_get}
use Rattle.feed_reader.specs.declared.fault.FeedFault.TheVariants as fault
use Rattle.feed_reader.specs.declared.timetable.Side.TheVariants as side
use Rattle.feed_reader.specs.Calendars.{calendar_dates_faults, calendar_faults, days_of}
use Rattle.feed_reader.specs.Faults.{Fields, bad_field}
use Rattle.feed_reader.specs.Feed.{FilesData, feed_faults}
use Rattle.feed_reader.specs.Frequencies.{bands_of, frequencies_faults}
use Rattle.feed_reader.specs.Ids.{first_ids}
use Rattle.feed_reader.specs.Routes.{routes_faults}
use Rattle.feed_reader.specs.Stops.{stops_faults, stops_of}
use Rattle.feed_reader.specs.Transfers.{transfer_of, transfers_aside, transfers_faults}
use Rattle.feed_reader.specs.Trips.{trips_faults}

-- rows of three and of five fields
abbrev three : List ℕ → List ℕ → List ℕ → Fields
three a b c = a ∷ b ∷ c ∷ []

abbrev five : List ℕ → List ℕ → List ℕ → List ℕ → List ℕ → Fields
five a b c d e = a ∷ b ∷ c ∷ d ∷ e ∷ []

-- ---- ids

-- a b, then b c, then a d b
first-of-repeated-ids : first_ids (codes "a" ∷ codes "b" ∷ codes "b" ∷ codes "c" ∷ codes "a" ∷ codes "d" ∷ codes "b" ∷ []) ≡ codes "a" ∷ codes "b" ∷ codes "c" ∷ codes "d" ∷ []
first-of-repeated-ids = refl

-- ---- stops.txt: a stop without a type in a station below it, the station, an entrance of it, a stop in no known
-- station, and a stop whose parent is a stop
abbrev stops : List Fields
stops = three (codes "s") [] (codes "p") ∷ three (codes "p") (codes "1") [] ∷ three (codes "e") (codes "2") (codes "p")
    ∷ three (codes "t") (codes "0") (codes "x") ∷ three (codes "u") (codes "00") (codes "s") ∷ []

known-stops : stops_of stops ≡ record { id = codes "s"; parent = Some 0 } ∷ record { id = codes "t"; parent = None } ∷ record { id = codes "u"; parent = None } ∷ []
known-stops = refl

no-stop-fault : stops_faults stops ≡ []
no-stop-fault = refl

-- the third record has the id of the second
double-stop : slice_get (stops_faults (three (codes "s") [] [] ∷ three (codes "s") (codes "1") [] ∷ [])) 0 ≡ Some (fault.DoubleId (record { file = codes "stops.txt"; row = 3; column = codes "stop_id"; field = codes "s" }))
double-stop = refl

-- the id is judged before the type, and the first row before the second
empty-stop : slice_get (stops_faults (three [] (codes "x") [] ∷ three (codes "s") (codes "x") [] ∷ [])) 0 ≡ Some (bad_field (record { file = codes "stops.txt"; row = 2; column = codes "stop_id"; field = [] }))
empty-stop = refl

typeless-stop : slice_get (stops_faults (three (codes "s") (codes "x") [] ∷ three (codes "s") [] [] ∷ [])) 0 ≡ Some (bad_field (record { file = codes "stops.txt"; row = 2; column = codes "location_type"; field = codes "x" }))
typeless-stop = refl

double-route : slice_get (routes_faults ((codes "r" ∷ []) ∷ (codes "q" ∷ []) ∷ (codes "r" ∷ []) ∷ [])) 0 ≡ Some (fault.DoubleId (record { file = codes "routes.txt"; row = 4; column = codes "route_id"; field = codes "r" }))
double-route = refl

-- ---- calendars: Monday to Friday, 1 + 2 + 4 + 8 + 16
abbrev week : List ℕ → Fields
week tuesday = codes "w" ∷ codes "1" ∷ tuesday ∷ codes "1" ∷ codes "1" ∷ codes "1" ∷ codes "0" ∷ codes "0" ∷ codes "20250602" ∷ codes "20250631" ∷ []

known-days : days_of (week (codes "1")) ≡ 31
known-days = refl

sunday-alone : days_of (codes "w" ∷ codes "0" ∷ codes "0" ∷ codes "0" ∷ codes "0" ∷ codes "0" ∷ codes "0" ∷ codes "1" ∷ []) ≡ 64
sunday-alone = refl

-- a day is judged before the dates, and June has 30 days
bad-day : slice_get (calendar_faults (week (codes "2") ∷ [])) 0 ≡ Some (bad_field (record { file = codes "calendar.txt"; row = 2; column = codes "tuesday"; field = codes "2" }))
bad-day = refl

bad-date : calendar_faults (week (codes "1") ∷ []) ≡ bad_field (record { file = codes "calendar.txt"; row = 2; column = codes "end_date"; field = codes "20250631" }) ∷ []
bad-date = refl

-- an exception of each type, and of none; a service and date may stand twice
bad-exception : calendar_dates_faults (three (codes "w") (codes "20250602") (codes "1") ∷ three (codes "w") (codes "20250602") (codes "2") ∷ three (codes "w") (codes "20250602") (codes "3") ∷ [])
    ≡ bad_field (record { file = codes "calendar_dates.txt"; row = 4; column = codes "exception_type"; field = codes "3" }) ∷ []
bad-exception = refl

-- ---- trips.txt: a route is looked up before the service is looked at, and an empty id is told before a double one
abbrev routes : List (List ℕ)
routes = codes "r" ∷ []

unknown-route : slice_get (trips_faults routes (three (codes "q") [] [] ∷ [])) 0 ≡ Some (fault.UnknownId (record { file = codes "trips.txt"; row = 2; column = codes "route_id"; field = codes "q" }))
unknown-route = refl

empty-trip : slice_get (trips_faults routes (three (codes "r") (codes "w") (codes "a") ∷ three (codes "r") (codes "w") [] ∷ three (codes "r") (codes "w") [] ∷ [])) 0
    ≡ Some (bad_field (record { file = codes "trips.txt"; row = 3; column = codes "trip_id"; field = [] }))
empty-trip = refl

-- the trips of trips.txt
abbrev trips : List (List ℕ)
trips = codes "a" ∷ codes "b" ∷ []

-- ---- frequencies.txt, where b alone was not set aside
abbrev bands : List Fields
bands = five (codes "a") (codes "6:00:00") (codes "7:00:00") (codes "600") [] ∷ five (codes "b") (codes "6:00:00") (codes "6:00:00") (codes "1000000") (codes "1") ∷ []

known-bands : bands_of (codes "b" ∷ []) bands ≡ record { trip = 0; begins = 21600; ends = 21600; headway = 1000000; exact = true } ∷ []
known-bands = refl

no-band-fault : frequencies_faults trips bands ≡ []
no-band-fault = refl

-- what exact_times says is judged before the headway, and the headway before the end
bad-exact : slice_get (frequencies_faults trips (five (codes "a") (codes "7:00:00") (codes "6:00:00") (codes "0") (codes "2") ∷ [])) 0
    ≡ Some (bad_field (record { file = codes "frequencies.txt"; row = 2; column = codes "exact_times"; field = codes "2" }))
bad-exact = refl

bad-headways : frequencies_faults trips (five (codes "a") (codes "7:00:00") (codes "6:00:00") (codes "1000001") (codes "0") ∷ [])
    ≡ fault.BadHeadway (record { file = codes "frequencies.txt"; row = 2; column = codes "headway_secs"; field = codes "1000001" })
    ∷ fault.BadHeadway (record { file = codes "frequencies.txt"; row = 2; column = codes "end_time"; field = codes "6:00:00" }) ∷ []
bad-headways = refl

-- ---- transfers.txt, over the stops and the station above: two sides, a type and the seconds
abbrev transfer : List ℕ → List ℕ → List ℕ → List ℕ → Fields
transfer from to kind seconds = from ∷ to ∷ kind ∷ seconds ∷ [] ∷ [] ∷ [] ∷ [] ∷ []

-- between a station and a stop, with its seconds and with those of no row
between-sides : transfer_of stops (transfer (codes "p") (codes "t") (codes "2") (codes "30"))
    ≡ Some (record { from = side.Station 0; to = side.Stop 1; barred = false; seconds = 30 })
between-sides = refl

without-seconds : transfer_of stops (transfer (codes "s") (codes "p") [] [])
    ≡ Some (record { from = side.Stop 0; to = side.Station 0; barred = false; seconds = 120 })
without-seconds = refl

barred : transfer_of stops (transfer (codes "s") (codes "u") (codes "3") (codes "0"))
    ≡ Some (record { from = side.Stop 0; to = side.Stop 2; barred = true; seconds = 0 })
barred = refl

-- set aside: type 4, equal sides, an entrance, and a row of one route; the unknown sides of the first and the last are no fault
abbrev aside : List Fields
aside = transfer (codes "s") (codes "x") (codes "4") [] ∷ transfer (codes "s") (codes "s") [] [] ∷ transfer (codes "e") (codes "s") [] []
    ∷ (codes "x" ∷ codes "y" ∷ [] ∷ [] ∷ codes "r" ∷ [] ∷ [] ∷ [] ∷ []) ∷ []

known-aside : transfers_aside stops aside ≡ 4
known-aside = refl

no-transfer-fault : transfers_faults stops aside ≡ []
no-transfer-fault = refl

-- the type is judged before the sides, also where it would set the row aside, and the side from before the side to
unknown-side : transfers_faults stops (transfer (codes "x") (codes "y") (codes "5") (codes "z") ∷ transfer (codes "x") (codes "y") [] [] ∷ [])
    ≡ bad_field (record { file = codes "transfers.txt"; row = 2; column = codes "min_transfer_time"; field = codes "z" })
    ∷ fault.UnknownId (record { file = codes "transfers.txt"; row = 3; column = codes "from_stop_id"; field = codes "x" })
    ∷ fault.UnknownId (record { file = codes "transfers.txt"; row = 3; column = codes "to_stop_id"; field = codes "y" }) ∷ []
unknown-side = refl

-- ---- files
abbrev no_files : FilesData
no_files = record {
  stops = None;
  routes = None;
  calendar = None;
  calendar_dates = None;
  trips = None;
  stop_times = None;
  frequencies = None;
  transfers = None;
}

-- each file that has to be there, in reading order
missing-files : feed_faults no_files
    ≡ fault.MissingFile (codes "stops.txt") ∷ fault.MissingFile (codes "routes.txt") ∷ fault.MissingFile (codes "calendar.txt") ∷ fault.MissingFile (codes "trips.txt") ∷ fault.MissingFile (codes "stop_times.txt") ∷ []
missing-files = refl
