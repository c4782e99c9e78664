use Rattle.std.proofs.Common.{◌≡◌, [], ◌∷◌, ◌++◌, subst}
use Rattle.std.specs.Prelude.{IfSome}
use Rattle.std.specs.Option.{option_to_list}
use Rattle.feed_reader.specs.Fetched.{feed_files}
use Rattle.desk.specs.InputFaults.{HasInputFault, table_paths}
use Rattle.desk.proofs.InputLemmas.{HasReadTo, feed_read, feed_stops, file_before, file_where_before, file_where_none, handed_on, last_paths, table_read, table_stops, tables_read, tables_stop}
use Rattle.desk.proofs.inputs.read_inputs.Goals as goal

-- files
pub returns-in_err-files-clause-fault : goal.returns-in_err-files-clause-fault
returns-in_err-files-clause-fault g c =
    handed_on (HasInputFault (record { files = g.D.Folder.files c.args.folder.now; old_count = g.D.Counted.count c.args.folder.now; new_count = g.D.Counted.count c.read_feed.new.folder }) c.args.words.now)
    c.from_residual.result c.in_err-files.field-0.0
    (feed_stops (g.D.Folder.files c.args.folder.now) (g.D.Counted.count c.args.folder.now) (g.D.Counted.count c.read_feed.new.folder) c.args.words.now c.as_str.result.now c.in_err-files.field-0.0 c.as_str.ensures.value c.read_feed.ensures.count c.in_err-files.ensures.fault)
    c.from_residual.ensures.1

-- zones
pub returns-in_err-zones-clause-fault : goal.returns-in_err-zones-clause-fault
returns-in_err-zones-clause-fault g c =
    let fed : HasReadTo (g.D.Folder.files c.args.folder.now) (g.D.Folder.files c.read_feed.new.folder) (g.D.Counted.count c.args.folder.now) (g.D.Counted.count c.read_feed.new.folder) c.args.words.now (table_paths c.args.words.now) =
    feed_read (g.D.Folder.files c.args.folder.now) (g.D.Folder.files c.read_feed.new.folder) (g.D.Counted.count c.args.folder.now) (g.D.Counted.count c.read_feed.new.folder) c.args.words.now c.as_str.result.now c.as_str.ensures.value c.in_ok-files.ensures.faultless c.read_feed.ensures.count c.read_feed.ensures.kept in
    handed_on (HasInputFault (record { files = g.D.Folder.files c.args.folder.now; old_count = g.D.Counted.count c.args.folder.now; new_count = g.D.Counted.count c.read_file.new.folder }) c.args.words.now)
    c.from_residual-in_err-zones.result c.in_err-zones.field-0.0
    (table_stops (g.D.Folder.files c.args.folder.now) (g.D.Folder.files c.read_feed.new.folder) (g.D.Counted.count c.args.folder.now) (g.D.Counted.count c.read_feed.new.folder) (g.D.Counted.count c.read_file.new.folder) c.args.words.now c.args.words.now.zones c.as_str-2.result.now (c.args.words.now.demand ∷ option_to_list c.args.words.now.walks ++ option_to_list c.args.words.now.scenario) c.in_err-zones.field-0.0 fed c.as_str-2.ensures.value c.read_file.ensures.count c.in_err-zones.ensures.unread)
    c.from_residual-in_err-zones.ensures.1

-- demand
pub returns-in_err-demand-clause-fault : goal.returns-in_err-demand-clause-fault
returns-in_err-demand-clause-fault g c =
    let fed : HasReadTo (g.D.Folder.files c.args.folder.now) (g.D.Folder.files c.read_feed.new.folder) (g.D.Counted.count c.args.folder.now) (g.D.Counted.count c.read_feed.new.folder) c.args.words.now (table_paths c.args.words.now) =
    feed_read (g.D.Folder.files c.args.folder.now) (g.D.Folder.files c.read_feed.new.folder) (g.D.Counted.count c.args.folder.now) (g.D.Counted.count c.read_feed.new.folder) c.args.words.now c.as_str.result.now c.as_str.ensures.value c.in_ok-files.ensures.faultless c.read_feed.ensures.count c.read_feed.ensures.kept in
    let with_zones : HasReadTo (g.D.Folder.files c.args.folder.now) (g.D.Folder.files c.read_file.new.folder) (g.D.Counted.count c.args.folder.now) (g.D.Counted.count c.read_file.new.folder) c.args.words.now (c.args.words.now.demand ∷ option_to_list c.args.words.now.walks ++ option_to_list c.args.words.now.scenario) =
    table_read (g.D.Folder.files c.args.folder.now) (g.D.Folder.files c.read_feed.new.folder) (g.D.Folder.files c.read_file.new.folder) (g.D.Counted.count c.args.folder.now) (g.D.Counted.count c.read_feed.new.folder) (g.D.Counted.count c.read_file.new.folder) c.args.words.now c.args.words.now.zones c.as_str-2.result.now c.in_ok-zones.zones (c.args.words.now.demand ∷ option_to_list c.args.words.now.walks ++ option_to_list c.args.words.now.scenario) fed c.as_str-2.ensures.value c.in_ok-zones.ensures.file c.read_file.ensures.count c.read_file.ensures.kept in
    handed_on (HasInputFault (record { files = g.D.Folder.files c.args.folder.now; old_count = g.D.Counted.count c.args.folder.now; new_count = g.D.Counted.count c.read_file-2.new.folder }) c.args.words.now)
    c.from_residual-in_err-demand.result c.in_err-demand.field-0.0
    (table_stops (g.D.Folder.files c.args.folder.now) (g.D.Folder.files c.read_file.new.folder) (g.D.Counted.count c.args.folder.now) (g.D.Counted.count c.read_file.new.folder) (g.D.Counted.count c.read_file-2.new.folder) c.args.words.now c.args.words.now.demand c.as_str-3.result.now (option_to_list c.args.words.now.walks ++ option_to_list c.args.words.now.scenario) c.in_err-demand.field-0.0 with_zones c.as_str-3.ensures.value c.read_file-2.ensures.count c.in_err-demand.ensures.unread)
    c.from_residual-in_err-demand.ensures.1

-- walks
pub returns-in_err-walks-clause-fault : goal.returns-in_err-walks-clause-fault
returns-in_err-walks-clause-fault g c =
    let fed : HasReadTo (g.D.Folder.files c.args.folder.now) (g.D.Folder.files c.read_feed.new.folder) (g.D.Counted.count c.args.folder.now) (g.D.Counted.count c.read_feed.new.folder) c.args.words.now (table_paths c.args.words.now) =
    feed_read (g.D.Folder.files c.args.folder.now) (g.D.Folder.files c.read_feed.new.folder) (g.D.Counted.count c.args.folder.now) (g.D.Counted.count c.read_feed.new.folder) c.args.words.now c.as_str.result.now c.as_str.ensures.value c.in_ok-files.ensures.faultless c.read_feed.ensures.count c.read_feed.ensures.kept in
    let with_zones : HasReadTo (g.D.Folder.files c.args.folder.now) (g.D.Folder.files c.read_file.new.folder) (g.D.Counted.count c.args.folder.now) (g.D.Counted.count c.read_file.new.folder) c.args.words.now (c.args.words.now.demand ∷ option_to_list c.args.words.now.walks ++ option_to_list c.args.words.now.scenario) =
    table_read (g.D.Folder.files c.args.folder.now) (g.D.Folder.files c.read_feed.new.folder) (g.D.Folder.files c.read_file.new.folder) (g.D.Counted.count c.args.folder.now) (g.D.Counted.count c.read_feed.new.folder) (g.D.Counted.count c.read_file.new.folder) c.args.words.now c.args.words.now.zones c.as_str-2.result.now c.in_ok-zones.zones (c.args.words.now.demand ∷ option_to_list c.args.words.now.walks ++ option_to_list c.args.words.now.scenario) fed c.as_str-2.ensures.value c.in_ok-zones.ensures.file c.read_file.ensures.count c.read_file.ensures.kept in
    let with_demand : HasReadTo (g.D.Folder.files c.args.folder.now) (g.D.Folder.files c.read_file-2.new.folder) (g.D.Counted.count c.args.folder.now) (g.D.Counted.count c.read_file-2.new.folder) c.args.words.now (option_to_list c.args.words.now.walks ++ option_to_list c.args.words.now.scenario) =
    table_read (g.D.Folder.files c.args.folder.now) (g.D.Folder.files c.read_file.new.folder) (g.D.Folder.files c.read_file-2.new.folder) (g.D.Counted.count c.args.folder.now) (g.D.Counted.count c.read_file.new.folder) (g.D.Counted.count c.read_file-2.new.folder) c.args.words.now c.args.words.now.demand c.as_str-3.result.now c.in_ok-demand.demand (option_to_list c.args.words.now.walks ++ option_to_list c.args.words.now.scenario) with_zones c.as_str-3.ensures.value c.in_ok-demand.ensures.file c.read_file-2.ensures.count c.read_file-2.ensures.kept in
    handed_on (HasInputFault (record { files = g.D.Folder.files c.args.folder.now; old_count = g.D.Counted.count c.args.folder.now; new_count = g.D.Counted.count c.read_where.new.folder }) c.args.words.now)
    c.from_residual-in_err-walks.result c.in_err-walks.field-0.0
    (tables_stop (g.D.Folder.files c.args.folder.now) (g.D.Folder.files c.read_file-2.new.folder) (g.D.Counted.count c.args.folder.now) (g.D.Counted.count c.read_file-2.new.folder) (g.D.Counted.count c.read_where.new.folder) c.args.words.now (option_to_list c.args.words.now.walks) (option_to_list c.args.words.now.scenario) c.in_err-walks.field-0.0 with_demand c.read_where.ensures.count c.in_err-walks.ensures.fault)
    c.from_residual-in_err-walks.ensures.1

-- scenario
pub returns-in_err-scenario-clause-fault : goal.returns-in_err-scenario-clause-fault
returns-in_err-scenario-clause-fault g c =
    let fed : HasReadTo (g.D.Folder.files c.args.folder.now) (g.D.Folder.files c.read_feed.new.folder) (g.D.Counted.count c.args.folder.now) (g.D.Counted.count c.read_feed.new.folder) c.args.words.now (table_paths c.args.words.now) =
    feed_read (g.D.Folder.files c.args.folder.now) (g.D.Folder.files c.read_feed.new.folder) (g.D.Counted.count c.args.folder.now) (g.D.Counted.count c.read_feed.new.folder) c.args.words.now c.as_str.result.now c.as_str.ensures.value c.in_ok-files.ensures.faultless c.read_feed.ensures.count c.read_feed.ensures.kept in
    let with_zones : HasReadTo (g.D.Folder.files c.args.folder.now) (g.D.Folder.files c.read_file.new.folder) (g.D.Counted.count c.args.folder.now) (g.D.Counted.count c.read_file.new.folder) c.args.words.now (c.args.words.now.demand ∷ option_to_list c.args.words.now.walks ++ option_to_list c.args.words.now.scenario) =
    table_read (g.D.Folder.files c.args.folder.now) (g.D.Folder.files c.read_feed.new.folder) (g.D.Folder.files c.read_file.new.folder) (g.D.Counted.count c.args.folder.now) (g.D.Counted.count c.read_feed.new.folder) (g.D.Counted.count c.read_file.new.folder) c.args.words.now c.args.words.now.zones c.as_str-2.result.now c.in_ok-zones.zones (c.args.words.now.demand ∷ option_to_list c.args.words.now.walks ++ option_to_list c.args.words.now.scenario) fed c.as_str-2.ensures.value c.in_ok-zones.ensures.file c.read_file.ensures.count c.read_file.ensures.kept in
    let with_demand : HasReadTo (g.D.Folder.files c.args.folder.now) (g.D.Folder.files c.read_file-2.new.folder) (g.D.Counted.count c.args.folder.now) (g.D.Counted.count c.read_file-2.new.folder) c.args.words.now (option_to_list c.args.words.now.walks ++ option_to_list c.args.words.now.scenario) =
    table_read (g.D.Folder.files c.args.folder.now) (g.D.Folder.files c.read_file.new.folder) (g.D.Folder.files c.read_file-2.new.folder) (g.D.Counted.count c.args.folder.now) (g.D.Counted.count c.read_file.new.folder) (g.D.Counted.count c.read_file-2.new.folder) c.args.words.now c.args.words.now.demand c.as_str-3.result.now c.in_ok-demand.demand (option_to_list c.args.words.now.walks ++ option_to_list c.args.words.now.scenario) with_zones c.as_str-3.ensures.value c.in_ok-demand.ensures.file c.read_file-2.ensures.count c.read_file-2.ensures.kept in
    let with_walks : HasReadTo (g.D.Folder.files c.args.folder.now) (g.D.Folder.files c.read_where.new.folder) (g.D.Counted.count c.args.folder.now) (g.D.Counted.count c.read_where.new.folder) c.args.words.now (option_to_list c.args.words.now.scenario) =
    tables_read (g.D.Folder.files c.args.folder.now) (g.D.Folder.files c.read_file-2.new.folder) (g.D.Folder.files c.read_where.new.folder) (g.D.Counted.count c.args.folder.now) (g.D.Counted.count c.read_file-2.new.folder) (g.D.Counted.count c.read_where.new.folder) c.args.words.now (option_to_list c.args.words.now.walks) (option_to_list c.args.words.now.scenario) with_demand (file_where_none (g.D.Folder.files c.read_file-2.new.folder) c.args.words.now.walks c.in_ok-walks.walks c.in_ok-walks.ensures.file) c.read_where.ensures.count c.read_where.ensures.kept in
    let none_behind : HasReadTo (g.D.Folder.files c.args.folder.now) (g.D.Folder.files c.read_where.new.folder) (g.D.Counted.count c.args.folder.now) (g.D.Counted.count c.read_where.new.folder) c.args.words.now (option_to_list c.args.words.now.scenario ++ []) =
    last_paths (g.D.Folder.files c.args.folder.now) (g.D.Folder.files c.read_where.new.folder) (g.D.Counted.count c.args.folder.now) (g.D.Counted.count c.read_where.new.folder) c.args.words.now (option_to_list c.args.words.now.scenario) with_walks in
    handed_on (HasInputFault (record { files = g.D.Folder.files c.args.folder.now; old_count = g.D.Counted.count c.args.folder.now; new_count = g.D.Counted.count c.read_where-2.new.folder }) c.args.words.now)
    c.from_residual-in_err-scenario.result c.in_err-scenario.field-0.0
    (tables_stop (g.D.Folder.files c.args.folder.now) (g.D.Folder.files c.read_where.new.folder) (g.D.Counted.count c.args.folder.now) (g.D.Counted.count c.read_where.new.folder) (g.D.Counted.count c.read_where-2.new.folder) c.args.words.now (option_to_list c.args.words.now.scenario) [] c.in_err-scenario.field-0.0 none_behind c.read_where-2.ensures.count c.in_err-scenario.ensures.fault)
    c.from_residual-in_err-scenario.ensures.1

-- all were read
pub returns-clause-inputs : goal.returns-clause-inputs
returns-clause-inputs g c =
    let fed : HasReadTo (g.D.Folder.files c.args.folder.now) (g.D.Folder.files c.read_feed.new.folder) (g.D.Counted.count c.args.folder.now) (g.D.Counted.count c.read_feed.new.folder) c.args.words.now (table_paths c.args.words.now) =
    feed_read (g.D.Folder.files c.args.folder.now) (g.D.Folder.files c.read_feed.new.folder) (g.D.Counted.count c.args.folder.now) (g.D.Counted.count c.read_feed.new.folder) c.args.words.now c.as_str.result.now c.as_str.ensures.value c.in_ok-files.ensures.faultless c.read_feed.ensures.count c.read_feed.ensures.kept in
    let with_zones : HasReadTo (g.D.Folder.files c.args.folder.now) (g.D.Folder.files c.read_file.new.folder) (g.D.Counted.count c.args.folder.now) (g.D.Counted.count c.read_file.new.folder) c.args.words.now (c.args.words.now.demand ∷ option_to_list c.args.words.now.walks ++ option_to_list c.args.words.now.scenario) =
    table_read (g.D.Folder.files c.args.folder.now) (g.D.Folder.files c.read_feed.new.folder) (g.D.Folder.files c.read_file.new.folder) (g.D.Counted.count c.args.folder.now) (g.D.Counted.count c.read_feed.new.folder) (g.D.Counted.count c.read_file.new.folder) c.args.words.now c.args.words.now.zones c.as_str-2.result.now c.in_ok-zones.zones (c.args.words.now.demand ∷ option_to_list c.args.words.now.walks ++ option_to_list c.args.words.now.scenario) fed c.as_str-2.ensures.value c.in_ok-zones.ensures.file c.read_file.ensures.count c.read_file.ensures.kept in
    let with_demand : HasReadTo (g.D.Folder.files c.args.folder.now) (g.D.Folder.files c.read_file-2.new.folder) (g.D.Counted.count c.args.folder.now) (g.D.Counted.count c.read_file-2.new.folder) c.args.words.now (option_to_list c.args.words.now.walks ++ option_to_list c.args.words.now.scenario) =
    table_read (g.D.Folder.files c.args.folder.now) (g.D.Folder.files c.read_file.new.folder) (g.D.Folder.files c.read_file-2.new.folder) (g.D.Counted.count c.args.folder.now) (g.D.Counted.count c.read_file.new.folder) (g.D.Counted.count c.read_file-2.new.folder) c.args.words.now c.args.words.now.demand c.as_str-3.result.now c.in_ok-demand.demand (option_to_list c.args.words.now.walks ++ option_to_list c.args.words.now.scenario) with_zones c.as_str-3.ensures.value c.in_ok-demand.ensures.file c.read_file-2.ensures.count c.read_file-2.ensures.kept in
    let with_walks : HasReadTo (g.D.Folder.files c.args.folder.now) (g.D.Folder.files c.read_where.new.folder) (g.D.Counted.count c.args.folder.now) (g.D.Counted.count c.read_where.new.folder) c.args.words.now (option_to_list c.args.words.now.scenario) =
    tables_read (g.D.Folder.files c.args.folder.now) (g.D.Folder.files c.read_file-2.new.folder) (g.D.Folder.files c.read_where.new.folder) (g.D.Counted.count c.args.folder.now) (g.D.Counted.count c.read_file-2.new.folder) (g.D.Counted.count c.read_where.new.folder) c.args.words.now (option_to_list c.args.words.now.walks) (option_to_list c.args.words.now.scenario) with_demand (file_where_none (g.D.Folder.files c.read_file-2.new.folder) c.args.words.now.walks c.in_ok-walks.walks c.in_ok-walks.ensures.file) c.read_where.ensures.count c.read_where.ensures.kept in
    let none_behind : HasReadTo (g.D.Folder.files c.args.folder.now) (g.D.Folder.files c.read_where.new.folder) (g.D.Counted.count c.args.folder.now) (g.D.Counted.count c.read_where.new.folder) c.args.words.now (option_to_list c.args.words.now.scenario ++ []) =
    last_paths (g.D.Folder.files c.args.folder.now) (g.D.Folder.files c.read_where.new.folder) (g.D.Counted.count c.args.folder.now) (g.D.Counted.count c.read_where.new.folder) c.args.words.now (option_to_list c.args.words.now.scenario) with_walks in
    let all : HasReadTo (g.D.Folder.files c.args.folder.now) (g.D.Folder.files c.read_where-2.new.folder) (g.D.Counted.count c.args.folder.now) (g.D.Counted.count c.read_where-2.new.folder) c.args.words.now ([]) =
    tables_read (g.D.Folder.files c.args.folder.now) (g.D.Folder.files c.read_where.new.folder) (g.D.Folder.files c.read_where-2.new.folder) (g.D.Counted.count c.args.folder.now) (g.D.Counted.count c.read_where.new.folder) (g.D.Counted.count c.read_where-2.new.folder) c.args.words.now (option_to_list c.args.words.now.scenario) [] none_behind (file_where_none (g.D.Folder.files c.read_where.new.folder) c.args.words.now.scenario c.in_ok-scenario.scenario c.in_ok-scenario.ensures.file) c.read_where-2.ensures.count c.read_where-2.ensures.kept in
    record {
      files = subst (λ folder. IfSome (g.D.Folder.files c.args.folder.now) (λ told. c.in_ok-files.files ≡ feed_files told folder)) c.as_str.ensures.value c.in_ok-files.ensures.files;
      zones = file_before (g.D.Folder.files c.args.folder.now) (g.D.Folder.files c.read_feed.new.folder) c.args.words.now.zones c.as_str-2.result.now c.in_ok-zones.zones fed.kept c.as_str-2.ensures.value c.in_ok-zones.ensures.file;
      demand = file_before (g.D.Folder.files c.args.folder.now) (g.D.Folder.files c.read_file.new.folder) c.args.words.now.demand c.as_str-3.result.now c.in_ok-demand.demand with_zones.kept c.as_str-3.ensures.value c.in_ok-demand.ensures.file;
      walks = file_where_before (g.D.Folder.files c.args.folder.now) (g.D.Folder.files c.read_file-2.new.folder) c.args.words.now.walks c.in_ok-walks.walks with_demand.kept c.in_ok-walks.ensures.file;
      scenario = file_where_before (g.D.Folder.files c.args.folder.now) (g.D.Folder.files c.read_where.new.folder) c.args.words.now.scenario c.in_ok-scenario.scenario with_walks.kept c.in_ok-scenario.ensures.file;
      no_fault = all.left;
    }
